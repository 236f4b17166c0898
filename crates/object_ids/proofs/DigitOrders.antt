-- The digits of bytes, and their order.
use Rattle.std.proofs.Common.{◌≡◌, ℕ, ◌+◌, ◌*◌, ◌/◌, ◌%◌, ◌<◌, List, [], ◌∷◌, Ordering, Less, Equal, Greater, refl, sym, ap, ◌∙◌, arith}
use Rattle.std.proofs.Math.Nat.{mod-lt}
use Rattle.std.proofs.lemmas.Cmp.{ranked, by_ranked}
use Rattle.std.proofs.lemmas.Bool.Decides.{nat_tests}
use Rattle.std.specs.Ordering.{nat_cmp, ordering_then}
use Rattle.std.specs.Cmp.Lexicographic.{slice_cmp}
use Rattle.std.specs.Int.{byte_at, bytes_high_first}
use Rattle.uuid.specs.Text.{hyphenated_text, hex_digit, by_index}
use Rattle.object_ids.proofs.NumberOrders.{cmp_same, cmp_more, cmp_parts, cmp_at, byte_small}
use Rattle.containers.specs.ShortLists.OrderLaws.{cmp_less}

abbrev pub digits : ℕ → List ℕ → List ℕ
digits x rest = hex_digit 97 (x / 16 % 16) ∷ hex_digit 97 (x % 16) ∷ rest

hex_rises : (a b : ℕ) → a < b → b < 16 → hex_digit 97 a < hex_digit 97 b
hex_rises a b h k = grind (arith, nat_tests)

cmp_hex : (a b : ℕ) → a < 16 → b < 16 → nat_cmp (hex_digit 97 a) (hex_digit 97 b) ≡ nat_cmp a b
cmp_hex a b ha hb = by_ranked _ _ _ (nat_cmp a b) (ranked a b _ refl)
    (λ e p. cmp_less _ _ (hex_rises a b p hb) ∙ sym e)
    (λ e p. cmp_same _ _ (ap (hex_digit 97) p) ∙ sym e)
    (λ e p. cmp_more _ _ (hex_rises b a p ha) ∙ sym e)

then_assoc : (a b c : Ordering) → ordering_then a (ordering_then b c) ≡ ordering_then (ordering_then a b) c
then_assoc Less b c = refl
then_assoc Equal b c = refl
then_assoc Greater b c = refl

nibbles : (x : ℕ) → x < 256 → x ≡ x / 16 % 16 * 16 + x % 16
nibbles x h = omega arith

record Compares (r s : List ℕ) (o : Ordering) : Type 0 where
  so : slice_cmp nat_cmp r s ≡ o

step_so : (x y : ℕ) (r s : List ℕ) (o : Ordering) → x < 256 → y < 256 → slice_cmp nat_cmp r s ≡ o
    → slice_cmp nat_cmp (digits x r) (digits y s) ≡ ordering_then (nat_cmp x y) o
step_so x y r s o hx hy rest =
    ap (λ p. ordering_then p (ordering_then (nat_cmp (hex_digit 97 (x % 16)) (hex_digit 97 (y % 16))) (slice_cmp nat_cmp r s)))
    (cmp_hex (x / 16 % 16) (y / 16 % 16) (mod-lt (x / 16) (omega arith)) (mod-lt (y / 16) (omega arith)))
    ∙ ap (λ p. ordering_then (nat_cmp (x / 16 % 16) (y / 16 % 16)) (ordering_then p (slice_cmp nat_cmp r s))) (cmp_hex (x % 16) (y % 16) (mod-lt x (omega arith)) (mod-lt y (omega arith)))
    ∙ then_assoc (nat_cmp (x / 16 % 16) (y / 16 % 16)) (nat_cmp (x % 16) (y % 16)) (slice_cmp nat_cmp r s)
    ∙ ap (λ p. ordering_then p (slice_cmp nat_cmp r s)) (sym (cmp_parts 16 (x / 16 % 16) (y / 16 % 16) (x % 16) (y % 16) (mod-lt x (omega arith)) (mod-lt y (omega arith))))
    ∙ ap (λ p. ordering_then p (slice_cmp nat_cmp r s)) (cmp_at (x / 16 % 16 * 16 + x % 16) (y / 16 % 16 * 16 + y % 16) x y (sym (nibbles x hx)) (sym (nibbles y hy)))
    ∙ ap (ordering_then (nat_cmp x y)) rest

step : (x y : ℕ) {r s : List ℕ} {o : Ordering} → x < 256 → y < 256 → Compares r s o → Compares (digits x r) (digits y s) (ordering_then (nat_cmp x y) o)
step x y {r} {s} {o} hx hy rest = record { so = step_so x y r s o hx hy rest.so }

dash : {r s : List ℕ} {o : Ordering} → Compares r s o → Compares (45 ∷ r) (45 ∷ s) o
dash h = record { so = h.so }

none : Compares [] [] Equal
none = record { so = refl }

-- the text of sixteen bytes
text16 : (x0 x1 x2 x3 x4 x5 x6 x7 x8 x9 x10 x11 x12 x13 x14 x15 : ℕ) → hyphenated_text 97 (x0 ∷ x1 ∷ x2 ∷ x3 ∷ x4 ∷ x5 ∷ x6 ∷ x7 ∷ x8 ∷ x9 ∷ x10 ∷ x11 ∷ x12 ∷ x13 ∷ x14 ∷ x15 ∷ []) ≡ digits x0 (digits x1 (digits x2 (digits x3 (45 ∷ digits x4 (digits x5 (45 ∷ digits x6 (digits x7 (45 ∷ digits x8 (digits x9 (45 ∷ digits x10 (digits x11 (digits x12 (digits x13 (digits x14 (digits x15 [])))))))))))))))
unfolding by_index
text16 x0 x1 x2 x3 x4 x5 x6 x7 x8 x9 x10 x11 x12 x13 x14 x15 = refl

pub cmp_hyphenated : (x y : ℕ) → slice_cmp nat_cmp (hyphenated_text 97 (bytes_high_first 16 x)) (hyphenated_text 97 (bytes_high_first 16 y)) ≡ slice_cmp nat_cmp (bytes_high_first 16 x) (bytes_high_first 16 y)
cmp_hyphenated x y =
    ap (λ t. slice_cmp nat_cmp t (hyphenated_text 97 (bytes_high_first 16 y))) (text16 (byte_at 15 x) (byte_at 14 x) (byte_at 13 x) (byte_at 12 x) (byte_at 11 x) (byte_at 10 x) (byte_at 9 x) (byte_at 8 x) (byte_at 7 x) (byte_at 6 x) (byte_at 5 x) (byte_at 4 x) (byte_at 3 x) (byte_at 2 x) (byte_at 1 x) (byte_at 0 x))
    ∙ ap (λ t. slice_cmp nat_cmp (digits (byte_at 15 x) (digits (byte_at 14 x) (digits (byte_at 13 x) (digits (byte_at 12 x) (45 ∷ digits (byte_at 11 x) (digits (byte_at 10 x) (45 ∷ digits (byte_at 9 x) (digits (byte_at 8 x) (45 ∷ digits (byte_at 7 x) (digits (byte_at 6 x) (45 ∷ digits (byte_at 5 x) (digits (byte_at 4 x) (digits (byte_at 3 x) (digits (byte_at 2 x) (digits (byte_at 1 x) (digits (byte_at 0 x) [])))))))))))))))) t) (text16 (byte_at 15 y) (byte_at 14 y) (byte_at 13 y) (byte_at 12 y) (byte_at 11 y) (byte_at 10 y) (byte_at 9 y) (byte_at 8 y) (byte_at 7 y) (byte_at 6 y) (byte_at 5 y) (byte_at 4 y) (byte_at 3 y) (byte_at 2 y) (byte_at 1 y) (byte_at 0 y))
    ∙ (step (byte_at 15 x) (byte_at 15 y) (byte_small 15 x) (byte_small 15 y) (step (byte_at 14 x) (byte_at 14 y) (byte_small 14 x) (byte_small 14 y) (step (byte_at 13 x) (byte_at 13 y) (byte_small 13 x) (byte_small 13 y) (step (byte_at 12 x) (byte_at 12 y) (byte_small 12 x) (byte_small 12 y) (dash (step (byte_at 11 x) (byte_at 11 y) (byte_small 11 x) (byte_small 11 y) (step (byte_at 10 x) (byte_at 10 y) (byte_small 10 x) (byte_small 10 y) (dash (step (byte_at 9 x) (byte_at 9 y) (byte_small 9 x) (byte_small 9 y) (step (byte_at 8 x) (byte_at 8 y) (byte_small 8 x) (byte_small 8 y) (dash (step (byte_at 7 x) (byte_at 7 y) (byte_small 7 x) (byte_small 7 y) (step (byte_at 6 x) (byte_at 6 y) (byte_small 6 x) (byte_small 6 y) (dash (step (byte_at 5 x) (byte_at 5 y) (byte_small 5 x) (byte_small 5 y) (step (byte_at 4 x) (byte_at 4 y) (byte_small 4 x) (byte_small 4 y) (step (byte_at 3 x) (byte_at 3 y) (byte_small 3 x) (byte_small 3 y) (step (byte_at 2 x) (byte_at 2 y) (byte_small 2 x) (byte_small 2 y) (step (byte_at 1 x) (byte_at 1 y) (byte_small 1 x) (byte_small 1 y) (step (byte_at 0 x) (byte_at 0 y) (byte_small 0 x) (byte_small 0 y) none)))))))))))))))))))).so
