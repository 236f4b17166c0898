-- Texts in the order of their bytes.
use Rattle.std.proofs.Common.{◌≡◌, ◌≢◌, ℕ, true, false, List, [], ◌∷◌, ◌++◌, Less, Equal, Greater, is_eq, refl, sym, ap, ◌∙◌}
use Rattle.std.specs.Cmp.{Equal-is, nat_cmp_total}
use Rattle.std.specs.Cmp.Lexicographic.{nat_list_cmp_total}
use Rattle.std.specs.Ordering.{eq_by_cmp, ordering_reverse, ordering_then}
use Rattle.std.proofs.lemmas.Cmp.{tied_itself}
use Rattle.containers.specs.TextMaps.Keyed.{text_order}
use Rattle.containers.proofs.TextMaps.KeyedMaps.{exact_texts}
use Rattle.containers.proofs.Passing.{by_bool, contrary}

-- a greater key isn't tied with a lesser one
pub greater : (x y : List ℕ) → text_order x y ≡ Less → eq_by_cmp text_order y x ≡ false
greater x y e = ap is_eq (nat_list_cmp_total.antisymm y x ∙ ap ordering_reverse e)

pub same_key : (q k : List ℕ) → eq_by_cmp text_order q k ≡ true → q ≡ k
same_key q k e = exact_texts q k ((Equal-is (text_order q k)).0 e)

pub unlike : (q k : List ℕ) → q ≢ k → eq_by_cmp text_order q k ≡ false
unlike q k other = by_bool (eq_by_cmp text_order q k) (eq_by_cmp text_order q k ≡ false) (λ y. absurd (other (same_key q k y))) (λ n. n)

pub itself : (q : List ℕ) → eq_by_cmp text_order q q ≡ true
itself q = ap is_eq (tied_itself nat_list_cmp_total q)

pub differ : (q k : List ℕ) → eq_by_cmp text_order q k ≡ false → q ≢ k
differ q k other same = contrary (eq_by_cmp text_order q k) ⊥ (ap (λ (x : List ℕ). eq_by_cmp text_order x k) same ∙ itself k) other

-- no text is less than itself
pub never_less : (q : List ℕ) → text_order q q ≡ Less → ⊥
never_less q e = let both : Equal ≡ Less = sym (tied_itself nat_list_cmp_total q) ∙ e in absurd (cc)

pub not_itself : (x q : List ℕ) → text_order x q ≡ Less → q ≢ x
not_itself x q low same = never_less x (sym (ap (text_order x) same) ∙ low)

pub turned : (k l : List ℕ) → text_order k l ≡ Greater → text_order l k ≡ Less
turned k l e = nat_list_cmp_total.antisymm l k ∙ ap ordering_reverse e

pub turned_back : (k l : List ℕ) → text_order k l ≡ Less → text_order l k ≡ Greater
turned_back k l e = nat_list_cmp_total.antisymm l k ∙ ap ordering_reverse e

-- a text stands before one that begins with it and goes on
pub behind_prefix : (front : List ℕ) (b : ℕ) (rest : List ℕ) → text_order front (front ++ b ∷ rest) ≡ Less
behind_prefix [] b rest = refl
behind_prefix (p ∷ ps) b rest = ap (λ o. ordering_then o (text_order ps (ps ++ b ∷ rest))) (tied_itself nat_cmp_total p) ∙ behind_prefix ps b rest
