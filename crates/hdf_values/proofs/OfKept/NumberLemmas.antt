-- Whole numbers and the bytes that they are packed as.
use Rattle.std.proofs.Common.{◌≡◌, ℕ, suc, ◌*◌, ◌/◌, ℤ, pos, negsuc, FitsSigned, Bool, true, false, List, [], ◌∷◌, ◌++◌, length, map, take, drop, Result, Ok, Err, IfOk, MatchResult, is_ok, if◌then◌else◌, inl, inr, refl, sym, ap, subst, ◌∙◌, arith, mul_comm, append-nil, append_assoc}
use Rattle.std.specs.Int.{w32, w64, bytes_low_first, to_le_bytes, cast_unsigned}
use Rattle.std.specs.List.{flat_map}
use Rattle.std.proofs.Math.Nat.{div-one, mul-div_cancel_left}
use Rattle.std.proofs.lemmas.Grind.{flat_map-append}
use Rattle.std.proofs.lemmas.Int.{ints}
use Rattle.std.proofs.lemmas.List.{take_at, drop_at}
use Rattle.hdf_types.specs.declared.IntType.{IntType}
use Rattle.hdf_types.specs.Elems.{int}
use Rattle.hdf_types.specs.Reading.{int_size}
use Rattle.hdf_types.specs.Types.{IsWidth}
use Rattle.hdf_values.specs.Integers.{IsInRange, int_bytes, int_value, low_first, twos}
use Rattle.hdf_values.specs.Nested.{pieces}
use Rattle.hdf_values.specs.Packed.{ArePacked, numbers_in, plain}
use Rattle.hdf_values.proofs.ByteLemmas.{low_from}
use Rattle.hdf_values.proofs.IntegerLemmas.{length-int_bytes, value-bytes}
use Rattle.hdf_values.proofs.NestedLemmas.{length-flat, map_each, pieces-flat}
use Rattle.hdf_values.proofs.PieceLemmas.{some_size}
use Rattle.json_trees.proofs.ListLemmas.{all_append}

-- ---- one number

low_all : (k n : ℕ) → bytes_low_first 0 k n ≡ low_first k n
low_all k n = low_from k 0 n ∙ ap (low_first k) (div-one n)

narrow_twos : (z : ℤ) → cast_unsigned w32 z ≡ twos 32 z
narrow_twos (pos n) = refl
narrow_twos (negsuc m) = omega arith

wide_twos : (z : ℤ) → cast_unsigned w64 z ≡ twos 64 z
wide_twos (pos n) = refl
wide_twos (negsuc m) = omega arith

pub narrow_bytes : (z : ℤ) → to_le_bytes w32 (cast_unsigned w32 z) ≡ int_bytes (plain false) z
unfolding int_bytes
narrow_bytes z = low_all 4 (cast_unsigned w32 z) ∙ ap (low_first 4) (narrow_twos z)

pub wide_bytes : (z : ℤ) → to_le_bytes w64 (cast_unsigned w64 z) ≡ int_bytes (plain true) z
unfolding int_bytes
wide_bytes z = low_all 8 (cast_unsigned w64 z) ∙ ap (low_first 8) (wide_twos z)

pub narrow_fits : (z : ℤ) → FitsSigned w32 z → IsInRange (plain false) z
narrow_fits z h = record { not_below = omega (arith, ints, h.sfits); not_above = omega (arith, ints, h.sfits) }

pub wide_fits : (z : ℤ) → FitsSigned w64 z → IsInRange (plain true) z
wide_fits z h = record { not_below = omega (arith, ints, h.sfits); not_above = omega (arith, ints, h.sfits) }

narrow_is_wide : (z : ℤ) → IsInRange (plain false) z → IsInRange (plain true) z
narrow_is_wide z h = record { not_below = omega (arith, ints, h.not_below); not_above = omega (arith, ints, h.not_above) }

-- ---- several

plain_width : (wide : Bool) → IsWidth (plain wide).bits
plain_width true = inr (inr (inr refl))
plain_width false = inr (inr (inl refl))

pub none_packed : (wide : Bool) → ArePacked (plain wide) [] []
none_packed wide = record { width = plain_width wide; bytes = refl; fit = tt }

pub one_packed : (t : IntType) (bs now : List ℕ) (zs : List ℤ) (z : ℤ) → ArePacked t bs zs → IsInRange t z → now ≡ bs ++ int_bytes t z
    → ArePacked t now (zs ++ z ∷ [])
one_packed t bs now zs z h r e = record {
  width = h.width;
  bytes = e ∙ ap (λ x. x ++ int_bytes t z) h.bytes ∙ ap (λ x. flat_map (int_bytes t) zs ++ x) (sym (append-nil (int_bytes t z)))
      ∙ sym (flat_map-append (int_bytes t) zs (z ∷ []));
  fit = all_append (IsInRange t) zs (z ∷ []) h.fit (r, tt);
}

map_same : (zs : List ℤ) → map (λ z. z) zs ≡ zs
map_same [] = refl
map_same (z ∷ zs) = ap (λ x. z ∷ x) (map_same zs)

pub length-packed : (t : IntType) (bs : List ℕ) (zs : List ℤ) → ArePacked t bs zs → length bs ≡ length zs * int_size t.bits
length-packed t bs zs h = ap length h.bytes ∙ length-flat (IsInRange t) (int_bytes t) (int_size t.bits) (λ z r. length-int_bytes t z) zs h.fit

pub numbers_back : (t : IntType) (bs : List ℕ) (zs : List ℤ) → ArePacked t bs zs → numbers_in t bs ≡ zs
numbers_back t bs zs h =
    let k = int_size t.bits in
    let n = length zs in
    let many : length bs / int_size t.bits ≡ length zs =
    ap (λ m. m / int_size t.bits) (length-packed t bs zs h ∙ mul_comm (length zs) (int_size t.bits))
    ∙ mul-div_cancel_left (length zs) (some_size (int t) h.width) in
    let split : pieces n k bs ≡ map (int_bytes t) zs = ap (pieces n k) h.bytes
    ∙ pieces-flat (IsInRange t) (int_bytes t) k (λ z r. length-int_bytes t z) zs h.fit in
    ap (λ m. map (int_value t) (pieces m k bs)) many
    ∙ ap (map (int_value t)) split
    ∙ map_each (IsInRange t) (int_value t) (int_bytes t) (λ z. z) (λ z r. value-bytes t z h.width r) zs h.fit
    ∙ map_same zs

-- ---- one number more

-- what was appended, if anything
pub appended : {E : Type 0} (r : Result (Unit {0}) E) (old new xs ys : List ℕ) → xs ≡ ys → new ≡ (if is_ok r then old ++ xs else old)
    → MatchResult r (λ u. new ≡ old ++ ys) (λ f. new ≡ old)
appended (Ok u) old new xs ys e h = h ∙ ap (λ x. old ++ x) e
appended (Err f) old new xs ys e h = h

-- the numbers with one more, if its bytes were appended
pub record IsAdded {E : Type 0} (r : Result (Unit {0}) E) (t : IntType) (now : List ℕ) (old : List ℤ) (z : ℤ) : Type 0 where
  pub packed : (zs : List ℤ) × ArePacked t now zs
  pub seen : IfOk r (λ u. numbers_in t now ≡ old ++ z ∷ [])

one_added : {E : Type 0} (r : Result (Unit {0}) E) (t : IntType) (bs now : List ℕ) (old : List ℤ) (z : ℤ) → ((zs : List ℤ) × ArePacked t bs zs)
    → numbers_in t bs ≡ old → IsInRange t z
    → MatchResult r (λ u. now ≡ bs ++ int_bytes t z) (λ f. now ≡ bs) → IsAdded r t now old z
one_added (Ok u) t bs now old z h is r e =
    let all = one_packed t bs now h.0 z h.1 r e in
    record { packed = (h.0 ++ z ∷ [], all); seen = numbers_back t now (h.0 ++ z ∷ []) all ∙ ap (λ x. x ++ z ∷ []) (sym (numbers_back t bs h.0 h.1) ∙ is) }
one_added (Err f) t bs now old z h is r e = record { packed = (h.0, subst (λ xs. ArePacked t xs h.0) (sym e) h.1); seen = tt }

-- as it is told of the number and of the type that are the same
pub added : {E : Type 0} (r : Result (Unit {0}) E) (t s : IntType) (bs now : List ℕ) (old : List ℤ) (y z : ℤ) → t ≡ s → y ≡ z
    → ((zs : List ℤ) × ArePacked t bs zs) → numbers_in t bs ≡ old → IsInRange s z
    → MatchResult r (λ u. now ≡ bs ++ int_bytes s y) (λ f. now ≡ bs) → IsAdded r t now old z
added r t s bs now old y z e is h seen fits told =
    let here = subst (λ x. MatchResult r (λ u. now ≡ bs ++ int_bytes s x) (λ f. now ≡ bs)) is told in
    one_added r t bs now old z h seen (subst (λ k. IsInRange k z) (sym e) fits)
    (subst (λ k. MatchResult r (λ u. now ≡ bs ++ int_bytes k z) (λ f. now ≡ bs)) (sym e) here)

-- ---- from 32 bits to 64

-- the first of the numbers are done, and as many are left
pub record AreWidened (zs : List ℤ) (left wide : List ℕ) (rest : ℕ) : Type 0 where
  pub done : List ℤ
  pub later : List ℤ
  pub all : zs ≡ done ++ later
  pub narrow : ArePacked (plain false) left later
  pub widened : ArePacked (plain true) wide done
  pub many : length later ≡ rest

pub none_widened : (zs : List ℤ) (bs wide : List ℕ) (rest : ℕ) → ArePacked (plain false) bs zs → wide ≡ [] → rest ≡ length bs / 4 → AreWidened zs bs wide rest
none_widened zs bs wide rest h none e = record {
  done = [];
  later = zs;
  all = refl;
  narrow = h;
  widened = subst (λ xs. ArePacked (plain true) xs []) (sym none) (none_packed true);
  many = omega (arith, e, length-packed (plain false) bs zs h);
}

more_widened : (zs done later : List ℤ) (left wide now : List ℕ) (z : ℤ) (rest : ℕ) → zs ≡ done ++ later → ArePacked (plain false) left later
    → ArePacked (plain true) wide done → length later ≡ suc rest
    → z ≡ int_value (plain false) (take 4 left) → now ≡ wide ++ int_bytes (plain true) z → AreWidened zs (drop 4 left) now rest
more_widened zs done [] left wide now z rest all narrow widened many is e = absurd (omega arith)
more_widened zs done (y ∷ later) left wide now z rest all narrow widened many is e =
    let t = plain false in
    let size = length-int_bytes (plain false) y in
    let others = flat_map (int_bytes t) later in
    let first : take 4 left ≡ int_bytes t y = ap (take 4) narrow.bytes ∙ take_at (int_bytes t y) others 4 size in
    let same : z ≡ y = is ∙ ap (int_value t) first ∙ value-bytes t y narrow.width narrow.fit.0 in
    record {
      done = done ++ y ∷ [];
      later = later;
      all = all ∙ sym (append_assoc done (y ∷ []) later);
      narrow = record { width = narrow.width; bytes = ap (drop 4) narrow.bytes ∙ drop_at (int_bytes t y) others 4 size; fit = narrow.fit.1 };
      widened = one_packed (plain true) wide now done y widened (narrow_is_wide y narrow.fit.0) (e ∙ ap (λ x. wide ++ int_bytes (plain true) x) same);
      many = omega (arith, many);
    }

pub one_widened : (zs : List ℤ) (left wide now : List ℕ) (z : ℤ) (rest : ℕ) → AreWidened zs left wide (suc rest) → z ≡ int_value (plain false) (take 4 left)
    → now ≡ wide ++ int_bytes (plain true) z → AreWidened zs (drop 4 left) now rest
one_widened zs left wide now z rest h is e = more_widened zs h.done h.later left wide now z rest h.all h.narrow h.widened h.many is e

no_number : (zs : List ℤ) → length zs ≡ 0 → zs ≡ []
no_number [] e = refl
no_number (z ∷ zs) e = absurd (omega arith)

pub all_widened : (zs : List ℤ) (left wide : List ℕ) → AreWidened zs left wide 0 → ArePacked (plain true) wide zs
all_widened zs left wide h =
    let all : h.done ≡ zs = sym (h.all ∙ ap (λ x. h.done ++ x) (no_number h.later h.many) ∙ append-nil h.done) in
    subst (ArePacked (plain true) wide) all h.widened
