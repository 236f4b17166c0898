-- The test of coordinates, axis by axis, agrees with the relation.
use Rattle.std.proofs.Common.{◌≡◌, ℕ, suc, ◌+◌, ◌<◌, ◌≤◌, Bool, true, false, List, [], ◌∷◌, length, drop, get_or, nat_lt, inl, inr, IsTrue, ◌↔◌, refl, ap, ◌∙◌, sym, arith}
use Rattle.std.proofs.lemmas.Bool.Decides.{nat_tests}
use Rattle.std.proofs.lemmas.Bool.{ltb-true, lt-ltb, cases_Bool, and_parts}
use Rattle.std.proofs.lemmas.List.{drop_more, drop_all}
use Rattle.shapes.specs.RowMajor.{IsInside, is_inside}
use Rattle.shapes.specs.declared.Shape.{Shape}
use Rattle.shapes.specs.declared.Shape.TheVariants.{Null, Scalar, Simple}
use Rattle.shapes.specs.Shapes.{LiesIn, lies_in}

pub inside_next : (i : ℕ) (xs ns : List ℕ) → i < length xs → i < length ns → get_or xs i 0 < get_or ns i 0 → is_inside (drop i xs) (drop i ns) ≡ is_inside (drop (i + 1) xs) (drop (i + 1) ns)
inside_next i xs ns h k l = rw (drop_more xs i 0 h, drop_more ns i 0 k, lt-ltb (get_or xs i 0) (get_or ns i 0) l)

pub inside_here : (i : ℕ) (xs ns : List ℕ) → i < length xs → i < length ns → get_or ns i 0 ≤ get_or xs i 0 → is_inside (drop i xs) (drop i ns) ≡ false
inside_here i xs ns h k l =
    let high : nat_lt (get_or xs i 0) (get_or ns i 0) ≡ false = grind (arith, nat_tests) in
    rw (drop_more xs i 0 h, drop_more ns i 0 k, high)

pub inside_end : (i : ℕ) (xs ns : List ℕ) → length xs ≤ i → length ns ≤ i → is_inside (drop i xs) (drop i ns) ≡ true
inside_end i xs ns h k = rw (drop_all i xs h, drop_all i ns k)

pub inside_ranked : (xs ns : List ℕ) → (length xs ≡ length ns → ⊥) → is_inside xs ns ≡ false
inside_ranked [] [] h = absurd (h refl)
inside_ranked [] (n ∷ ns) h = refl
inside_ranked (x ∷ xs) [] h = refl
inside_ranked (x ∷ xs) (n ∷ ns) h = elim (cases_Bool (nat_lt x n)) [
  | inl low ↦ rw (low, inside_ranked xs ns (λ e. h (ap suc e)))
  | inr high ↦ rw high
]

pub inside_told : (xs ns : List ℕ) → is_inside xs ns ≡ true → IsInside xs ns
inside_told [] [] e = tt
inside_told [] (n ∷ ns) e = cc
inside_told (x ∷ xs) [] e = cc
inside_told (x ∷ xs) (n ∷ ns) e =
    let both = and_parts (nat_lt x n) (is_inside xs ns) e in
    (ltb-true x n both.0, inside_told xs ns both.1)

pub inside_read : (xs ns : List ℕ) → IsInside xs ns → is_inside xs ns ≡ true
inside_read [] [] h = refl
inside_read [] (n ∷ ns) h = absurd h
inside_read (x ∷ xs) [] h = absurd h
inside_read (x ∷ xs) (n ∷ ns) h = rw (lt-ltb x n h.0, inside_read xs ns h.1)

pub lies_told : (at : List ℕ) (s : Shape) → lies_in at s ≡ true → LiesIn at s
lies_told at Null e = cc
lies_told at Scalar e = inside_told at [] e
lies_told at (Simple dims limits) e = inside_told at dims e

pub lies_read : (at : List ℕ) (s : Shape) → LiesIn at s → lies_in at s ≡ true
lies_read at Null h = absurd h
lies_read at Scalar h = inside_read at [] h
lies_read at (Simple dims limits) h = inside_read at dims h

-- a test that agrees with the definition's
pub test_told : (at : List ℕ) (s : Shape) (b : Bool) → b ≡ lies_in at s → IsTrue b ↔ LiesIn at s
test_told at s b e = (λ h. lies_told at s (sym e ∙ h), λ h. e ∙ lies_read at s h)

-- without an axis there are no coordinates
pub none_inside : (at : List ℕ) (b : Bool) → (IsTrue b ↔ (length at ≡ 0)) → b ≡ is_inside at []
none_inside [] b h = h.1 refl
none_inside (x ∷ xs) true h = absurd (omega (arith, h.0 refl))
none_inside (x ∷ xs) false h = refl
