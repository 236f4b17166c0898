-- How many nodes pass a test.
use Rattle.std.proofs.Common.{◌≡◌, ℕ, suc, ◌+◌, Bool, true, false, not, cond, List, [], ◌∷◌, length, count_by, refl, sym, ap, ap₂, ◌∙◌, arith}
use Rattle.std.proofs.lemmas.List.Sums.{sum_by-cons}
use Rattle.containers.specs.TextMaps.Keyed.{keyed}

one_more : (b : Bool) (x y n : ℕ) → x + y ≡ n → (cond b 1 0 + x) + (cond (not b) 1 0 + y) ≡ suc n
one_more true x y n e = omega arith
one_more false x y n e = omega arith

-- each passes or doesn't
pub count_both : {A : Type 0} (p : A → Bool) (xs : List A) → count_by p xs + count_by (λ x. not (p x)) xs ≡ length xs
count_both p [] = refl
count_both p (x ∷ xs) =
    ap₂ (λ a b. a + b) (sum_by-cons (λ y. cond (p y) 1 0) x xs) (sum_by-cons (λ y. cond (not (p y)) 1 0) x xs)
    ∙ one_more (p x) _ _ _ (count_both p xs)

pub count_keyed : {K X : Type 0} (bytes : K → List ℕ) (p : X → Bool) (es : List (K × X)) → count_by (λ e. p e.1) (keyed bytes es) ≡ count_by (λ e. p e.1) es
count_keyed bytes p [] = refl
count_keyed bytes p (e ∷ es) =
    sum_by-cons (λ d. cond (p d.1) 1 0) (bytes e.0, e.1) (keyed bytes es)
    ∙ ap (λ n. cond (p e.1) 1 0 + n) (count_keyed bytes p es)
    ∙ sym (sum_by-cons (λ d. cond (p d.1) 1 0) e es)
