-- The steps that a request has.
use Rattle.std.proofs.Common.{◌≡◌, ℕ, false, List, [], ◌∷◌, map, Option, Some, None, refl}
use Rattle.object_ops.specs.declared.grants.Step.{Step}
use Rattle.object_ops.specs.declared.grants.Step.TheVariants.{Only, Link, Make as Making}
use Rattle.object_ops.specs.declared.ops.Op.{Op}
use Rattle.object_ops.specs.declared.ops.Op.TheVariants.{DropNode, MakeObject}
use Rattle.chunk_owner.specs.Acts.{IsStepOf}
use Rattle.register.specs.Grants.{HasSteps}
use Rattle.register.specs.declared.tickets.Turn.{Turn}
use Rattle.service_histories.proofs.Adding.{makes}

-- an operation other than the removal of a node
abbrev pub IsOther : Op → Type 0
IsOther DropNode = ⊥
IsOther o = Unit {0}

first_step : {A : Type 0} {x y : A} {xs ys : List A} → x ∷ xs ≡ y ∷ ys → x ≡ y
first_step e = cc

second_step : {A : Type 0} {x y z w : A} {xs ys : List A} → x ∷ z ∷ xs ≡ y ∷ w ∷ ys → z ≡ w
second_step e = cc

not_two : (x y : Option Step) (zs : List (Option Step)) → ◌≡◌ {A = List (Option Step)} (x ∷ y ∷ zs) (Some Only ∷ []) → ⊥
not_two x y zs e = cc

not_three : (x y z : Option Step) (zs : List (Option Step)) → ◌≡◌ {A = List (Option Step)} (x ∷ y ∷ z ∷ zs) (Some Link ∷ Some Making ∷ []) → ⊥
not_three x y z zs e = cc

-- the step of the one turn is of the request
abbrev pub IsOne : Op → Option Step → Type 0
IsOne o step = (s : Step) × (step ≡ Some s) × IsStepOf o s

pub record IsPair (o : Op) (one two : Option Step) : Type 0 where
  pub first : one ≡ Some Link
  pub second : two ≡ Some Making
  pub link : IsStepOf o Link
  pub making : IsStepOf o Making
  pub makes_none : makes o Link ≡ false

module _ (n : ℕ) where
  pub one_of : (o : Op) (t : Turn) → IsOther o → HasSteps n o (t ∷ []) → IsOne o t.step
  one_of DropNode t other has = absurd other
  one_of (MakeObject make (Some place)) t other has = absurd (let never : ◌≡◌ {A = List (Option Step)} (t.step ∷ []) (Some Link ∷ Some Making ∷ []) = has in cc)
  one_of (MakeObject make None) t other has = (Only, first_step has, refl)
  one_of o t other has = (Only, first_step has, refl)

  pub two_of : (o : Op) (t u : Turn) (ts : List Turn) → IsOther o → HasSteps n o (t ∷ u ∷ ts) → IsPair o t.step u.step
  two_of DropNode t u ts other has = absurd other
  two_of (MakeObject make (Some place)) t u ts other has = record { first = first_step has; second = second_step has; link = tt; making = tt; makes_none = refl }
  two_of (MakeObject make None) t u ts other has = absurd (not_two t.step u.step (map (λ t. t.step) ts) has)
  two_of o t u ts other has = absurd (not_two t.step u.step (map (λ t. t.step) ts) has)

  pub no_three : (o : Op) (t u v : Turn) (ts : List Turn) → IsOther o → HasSteps n o (t ∷ u ∷ v ∷ ts) → ⊥
  no_three DropNode t u v ts other has = other
  no_three (MakeObject make (Some place)) t u v ts other has = not_three t.step u.step v.step (map (λ t. t.step) ts) has
  no_three (MakeObject make None) t u v ts other has = not_two t.step u.step (map (λ t. t.step) (v ∷ ts)) has
  no_three o t u v ts other has = not_two t.step u.step (map (λ t. t.step) (v ∷ ts)) has
