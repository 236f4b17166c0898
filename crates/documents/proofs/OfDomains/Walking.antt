-- A walk over a map by its keys, each of whose entries is put among members.
use Rattle.std.proofs.Common.{◌≡◌, ◌<◌, List, [], ◌∷◌, length, Option, Some, None, Ordering, refl, sym, ap, ◌∙◌, arith}
use Rattle.std.specs.FinMap.{FinMap, entries, get}
use Rattle.containers.specs.TextMaps.Nexts.{IsKeyStep, left}

module _ {K X : Type 0} {R : K → K → Ordering} (m : FinMap R X) where
  -- what is behind nothing is all
  pub left_all : (es : List (K × X)) → left R None es ≡ es
  left_all [] = refl
  left_all (e ∷ es) = ap (λ r. e ∷ r) (left_all es)

  -- each step leaves less
  pub walk_shorter : (after : Option K) (k : K) → IsKeyStep m after (Some k) → length (left R (Some k) (entries m)) < length (left R after (entries m))
  walk_shorter after k next = let e = ap length next.2 in omega (arith, e)

  -- `f` makes something of what is made so far and the entries that are left; `one` does so for what stands at a key
  module _ {A : Type 0} (f : List (K × X) → A → A) (one : K → Option X → A → A) (takes : (e : K × X) (es : List (K × X)) (a : A) → f (e ∷ es) a ≡ f es (one e.0 (Some e.1) a)) where
    pub walk_more : (after : Option K) (k : K) (old new whole : A) → IsKeyStep m after (Some k) → new ≡ one k (get m k) old
        → f (left R after (entries m)) old ≡ whole → f (left R (Some k) (entries m)) new ≡ whole
    walk_more after k old new whole next made so_far =
        ap (f (left R (Some k) (entries m))) (made ∙ ap (λ v. one k v old) next.1)
        ∙ sym (takes (k, next.0) (left R (Some k) (entries m)) old)
        ∙ ap (λ es. f es old) (sym next.2) ∙ so_far

    pub walk_end : (after : Option K) (a whole : A) → IsKeyStep m after None → f [] a ≡ a → f (left R after (entries m)) a ≡ whole → a ≡ whole
    walk_end after a whole next none so_far = sym none ∙ ap (λ es. f es a) (sym next) ∙ so_far
