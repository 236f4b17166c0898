-- Walks over a map, from a key to the next one.
--     first xs, first_key es      the first element;  the key of the first entry
--     is_behind compare after k      whether the key k is behind `after`, where one is given; compare is the order
--     left R after es      the entries of es that are behind `after`
--     IsNext m after k      the key k is the least of m that is behind `after`; None where m has none
--     IsStep m after e      the entry e is the first of those behind `after`, and behind it the walk goes on
--     IsKeyStep m after k      the same of the entry at the key k
use Rattle.std.specs.Prelude.{◌≡◌, Bool, true, List, [], ◌∷◌, Option, Some, None, IsSome, option_map}
use Rattle.std.specs.List.{filter}
use Rattle.std.specs.declared.cmp.Ordering.{Ordering}
use Rattle.std.specs.declared.cmp.Ordering.TheVariants.{Less}
use Rattle.std.specs.Ordering.{is_lt}
use Rattle.std.specs.FinMap.{FinMap, get, entries}

abbrev pub first : {A : Type 0} → List A → Option A
first [] = None
first (x ∷ xs) = Some x

abbrev pub first_key : {K X : Type 0} → List (K × X) → Option K
first_key es = option_map (λ e. e.0) (first es)

abbrev pub is_behind : {Q K : Type 0} → (Q → K → Ordering) → Option Q → K → Bool
is_behind compare None k = true
is_behind compare (Some after) k = is_lt (compare after k)

abbrev pub left : {K X : Type 0} → (K → K → Ordering) → Option K → List (K × X) → List (K × X)
left R after es = filter (λ e. is_behind R after e.0) es

module _ {K X : Type 0} {R : K → K → Ordering} (m : FinMap R X) (after : Option K) where
  abbrev pub IsNext : Option K → Type 0
  IsNext None = (q : K) → is_behind R after q ≡ true → get m q ≡ None
  IsNext (Some k) = (is_behind R after k ≡ true) × IsSome (get m k)
      × ((q : K) → is_behind R after q ≡ true → R q k ≡ Less → get m q ≡ None)

  abbrev pub IsStep : Option (K × X) → Type 0
  IsStep None = left R after (entries m) ≡ []
  IsStep (Some e) = left R after (entries m) ≡ e ∷ left R (Some e.0) (entries m)

  abbrev pub IsKeyStep : Option K → Type 0
  IsKeyStep None = left R after (entries m) ≡ []
  IsKeyStep (Some k) = (v : X) × (get m k ≡ Some v) × (left R after (entries m) ≡ (k, v) ∷ left R (Some k) (entries m))
