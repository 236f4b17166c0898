-- A number and its bytes.
use Rattle.std.proofs.Common.{◌≡◌, ℕ, zero, suc, ◌+◌, ◌-◌, ◌*◌, ◌/◌, ◌%◌, ◌^◌, ◌<◌, ◌≤◌, ℤ, pos, negsuc, ◌≤ℤ◌, FitsSigned, to_z, of_z, Bool, true, false, ◌&&◌, T, if◌then◌else◌, List, [], ◌∷◌, ◌++◌, length, replicate, reverse, inl, inr, refl, sym, ap, ◌∙◌, subst, arith}
use Rattle.std.specs.List.{AllByRecursion}
use Rattle.std.proofs.Math.Nat.{pow-suc}
use Rattle.std.proofs.lemmas.Bool.{and_parts, and_from, lt-ltb, le-ltb, cases_lt}
use Rattle.std.specs.Int.{w128}
use Rattle.std.proofs.lemmas.Int.{ints, to_z-of_z}
use Rattle.std.proofs.lemmas.List.{length-append, reverse-reverse, length-reverse, replicate_more}
use Rattle.std.proofs.lemmas.Nat.{div_below}
use lib.Signed.{le_z, le_z_yes}
use mathlib.Core.List.{reverse_aux, reverse-cons}
use Rattle.hdf_types.specs.declared.IntType.{IntType}
use Rattle.hdf_types.specs.Reading.{int_size}
use Rattle.hdf_types.specs.Types.{IsWidth}
use Rattle.hdf_values.specs.Integers.{IsInRange, least, greatest, in_range, int_bytes, int_value, low_first, number_of, in_order, twos, signed_of}

-- ---- ranges

le_told : (x y : ℤ) → le_z x y ≡ true → x ≤ℤ y
le_told x y e = le_z_yes (subst T (sym e) tt)

holds : (b : Bool) → T b → b ≡ true
holds true h = refl
holds false h = absurd h

pub range_told : (t : IntType) (z : ℤ) → in_range t z ≡ true → IsInRange t z
unfolding in_range
range_told t z e =
    let parts = and_parts _ _ e in
    record { not_below = le_told _ _ parts.0; not_above = le_told _ _ parts.1 }

pub range_read : (t : IntType) (z : ℤ) → IsInRange t z → in_range t z ≡ true
unfolding in_range
range_read t z h = and_from _ _ (holds _ h.not_below.le) (holds _ h.not_above.le)

-- the test as the code makes it, on values that fit
pub both_tests : (low z high : ℤ) → FitsSigned w128 low → FitsSigned w128 z → FitsSigned w128 high → le_z (to_z w128 (of_z w128 low)) (to_z w128 (of_z w128 z)) ≡ true
    → le_z (to_z w128 (of_z w128 z)) (to_z w128 (of_z w128 high)) ≡ (le_z low z && le_z z high)
both_tests low z high f g h e =
    let first : le_z low z ≡ true = rw (to_z-of_z w128 low f, to_z-of_z w128 z g) at e in
    rw (to_z-of_z w128 z g, to_z-of_z w128 high h, first) refl

pub first_fails : (low z high : ℤ) → FitsSigned w128 low → FitsSigned w128 z → le_z (to_z w128 (of_z w128 low)) (to_z w128 (of_z w128 z)) ≡ false
    → le_z (to_z w128 (of_z w128 low)) (to_z w128 (of_z w128 z)) ≡ (le_z low z && le_z z high)
first_fails low z high f g e =
    let first : le_z low z ≡ false = rw (to_z-of_z w128 low f, to_z-of_z w128 z g) at e in
    rw (to_z-of_z w128 low f, to_z-of_z w128 z g, first) refl

-- the test between the ends of a range, which fit
pub range_test : (t : IntType) (b : Bool) (low z high : ℤ) → FitsSigned w128 low → FitsSigned w128 high → low ≡ least t → high ≡ greatest t
    → b ≡ (le_z (to_z w128 (of_z w128 low)) z && le_z z (to_z w128 (of_z w128 high))) → b ≡ in_range t z
unfolding in_range
range_test t b low z high f g l h e =
    e ∙ ap (λ x. le_z x z && le_z z (to_z w128 (of_z w128 high))) (to_z-of_z w128 low f ∙ l)
    ∙ ap (λ x. le_z (least t) z && le_z z x) (to_z-of_z w128 high g ∙ h)

-- ---- the widths

record Halves (bits : ℕ) : Type 0 where
  whole : 2 ^ bits ≡ 2 * 2 ^ (bits - 1)
  some : 1 ≤ 2 ^ (bits - 1)
  bytes : 256 ^ int_size bits ≡ 2 ^ bits

halves : (bits : ℕ) → IsWidth bits → Halves bits
halves bits (inl e) = subst Halves (sym e) (record { whole = refl; some = omega arith; bytes = refl })
halves bits (inr (inl e)) = subst Halves (sym e) (record { whole = refl; some = omega arith; bytes = refl })
halves bits (inr (inr (inl e))) = subst Halves (sym e) (record { whole = refl; some = omega arith; bytes = refl })
halves bits (inr (inr (inr e))) = subst Halves (sym e) (record { whole = refl; some = omega arith; bytes = refl })

-- ---- bytes, the lowest first

length-low_first : (k n : ℕ) → length (low_first k n) ≡ k
length-low_first zero n = refl
length-low_first (suc k) n = ap suc (length-low_first k (n / 256))

length-in_order : (big : Bool) (bs : List ℕ) → length (in_order big bs) ≡ length bs
length-in_order true bs = length-reverse bs
length-in_order false bs = refl

in_order_twice : (big : Bool) (bs : List ℕ) → in_order big (in_order big bs) ≡ bs
in_order_twice true bs = reverse-reverse bs
in_order_twice false bs = refl

each_turned : (bs cs : List ℕ) → AllByRecursion (λ b. b < 256) bs → AllByRecursion (λ b. b < 256) cs → AllByRecursion (λ b. b < 256) (reverse_aux bs cs)
each_turned [] cs h k = k
each_turned (b ∷ bs) cs h k = each_turned bs (b ∷ cs) h.1 (h.0, k)

each_in_order : (big : Bool) (bs : List ℕ) → AllByRecursion (λ b. b < 256) bs → AllByRecursion (λ b. b < 256) (in_order big bs)
each_in_order true bs h = each_turned bs [] h tt
each_in_order false bs h = h

number-low_first : (k n : ℕ) → n < 256 ^ k → number_of (low_first k n) ≡ n
number-low_first zero n h = omega arith
number-low_first (suc k) n h =
    let low : n / 256 < 256 ^ k = div_below n 256 (256 ^ k) (omega arith) (omega (arith, h, pow-suc 256 k)) in
    omega (arith, number-low_first k (n / 256) low)

low_first-number : (bs : List ℕ) → AllByRecursion (λ b. b < 256) bs → low_first (length bs) (number_of bs) ≡ bs
low_first-number [] h = refl
low_first-number (b ∷ bs) h =
    let n = number_of bs in
    let here : (b + 256 * n) % 256 ≡ b = omega (arith, h.0) in
    let next : (b + 256 * n) / 256 ≡ n = omega (arith, h.0) in
    ap (λ m. m ∷ low_first (length bs) ((b + 256 * n) / 256)) here ∙ ap (λ m. b ∷ low_first (length bs) m) next ∙ ap (λ xs. b ∷ xs) (low_first-number bs h.1)

number_below : (bs : List ℕ) → AllByRecursion (λ b. b < 256) bs → number_of bs < 256 ^ length bs
number_below [] h = omega arith
number_below (b ∷ bs) h = omega (arith, number_below bs h.1, h.0, pow-suc 256 (length bs))

low_first-zero : (k : ℕ) → low_first k 0 ≡ replicate k 0
low_first-zero zero = refl
low_first-zero (suc k) = ap (λ bs. 0 ∷ bs) (low_first-zero k)

reverse-replicate : (k x : ℕ) → reverse (replicate k x) ≡ replicate k x
reverse-replicate zero x = refl
reverse-replicate (suc k) x =
    let more : k + 1 ≡ suc k = omega arith in
    reverse-cons x (replicate k x) ∙ ap (λ xs. xs ++ x ∷ []) (reverse-replicate k x) ∙ replicate_more k x ∙ ap (λ m. replicate m x) more

in_order-zeros : (big : Bool) (k : ℕ) → in_order big (replicate k 0) ≡ replicate k 0
in_order-zeros true k = reverse-replicate k 0
in_order-zeros false k = refl

-- ---- two's complement

-- the ends of a range, and the number of a two's complement, with a sign or without

abbrev lowest : Bool → ℕ → ℤ
lowest signed bits = if signed then negsuc (2 ^ (bits - 1) - 1) else pos 0

abbrev highest : Bool → ℕ → ℤ
highest signed bits = if signed then pos (2 ^ (bits - 1) - 1) else pos (2 ^ bits - 1)

abbrev pub value_of : Bool → ℕ → ℕ → ℤ
value_of signed bits n = if signed then signed_of bits n else pos n

signed_back : (bits : ℕ) (z : ℤ) → Halves bits → negsuc (2 ^ (bits - 1) - 1) ≤ℤ z → z ≤ℤ pos (2 ^ (bits - 1) - 1) → signed_of bits (twos bits z) ≡ z
signed_back bits (pos n) w l g = rw (lt-ltb n (2 ^ (bits - 1)) (omega (arith, ints))) refl
signed_back bits (negsuc m) w l g =
    let within : m < 2 ^ (bits - 1) = omega (arith, ints) in
    let back : 2 ^ bits - 1 - (2 ^ bits - 1 - m) ≡ m = omega arith in
    rw (le-ltb (2 ^ bits - 1 - m) (2 ^ (bits - 1)) (omega arith)) (ap negsuc back)

value_back : (signed : Bool) (bits : ℕ) (z : ℤ) → Halves bits → lowest signed bits ≤ℤ z → z ≤ℤ highest signed bits → value_of signed bits (twos bits z) ≡ z
value_back true bits z w l g = signed_back bits z w l g
value_back false bits (pos n) w l g = refl
value_back false bits (negsuc m) w l g = absurd l.le

twos_below : (signed : Bool) (bits : ℕ) (z : ℤ) → Halves bits → lowest signed bits ≤ℤ z → z ≤ℤ highest signed bits → twos bits z < 2 ^ bits
twos_below true bits (pos n) w l g = omega (arith, ints)
twos_below true bits (negsuc m) w l g = omega arith
twos_below false bits (pos n) w l g = omega (arith, ints)
twos_below false bits (negsuc m) w l g = absurd l.le

twos_back : (signed : Bool) (bits n : ℕ) → Halves bits → n < 2 ^ bits → twos bits (value_of signed bits n) ≡ n
twos_back true bits n w h = elim (cases_lt n (2 ^ (bits - 1))) [
  | inl below ↦ rw (lt-ltb n (2 ^ (bits - 1)) below) refl
  | inr above ↦
      let back : 2 ^ bits - 1 - (2 ^ bits - 1 - n) ≡ n = omega arith in
      rw (le-ltb n (2 ^ (bits - 1)) above) back
]
twos_back false bits n w h = refl

value_within : (signed : Bool) (bits n : ℕ) → Halves bits → n < 2 ^ bits → (lowest signed bits ≤ℤ value_of signed bits n) × (value_of signed bits n ≤ℤ highest signed bits)
value_within true bits n w h = elim (cases_lt n (2 ^ (bits - 1))) [
  | inl below ↦ rw (lt-ltb n (2 ^ (bits - 1)) below) (omega (arith, ints), omega (arith, ints))
  | inr above ↦ rw (le-ltb n (2 ^ (bits - 1)) above) (omega (arith, ints), omega (arith, ints))
]
value_within false bits n w h = (omega (arith, ints), omega (arith, ints))

zero_within : (signed : Bool) (bits : ℕ) → (lowest signed bits ≤ℤ pos 0) × (pos 0 ≤ℤ highest signed bits)
zero_within true bits = (omega (arith, ints), omega (arith, ints))
zero_within false bits = (omega (arith, ints), omega (arith, ints))

-- ---- a number and its bytes

pub length-int_bytes : (t : IntType) (z : ℤ) → length (int_bytes t z) ≡ int_size t.bits
unfolding int_bytes
length-int_bytes t z = length-in_order t.big (low_first (int_size t.bits) (twos t.bits z)) ∙ length-low_first (int_size t.bits) (twos t.bits z)

pub value-bytes : (t : IntType) (z : ℤ) → IsWidth t.bits → IsInRange t z → int_value t (int_bytes t z) ≡ z
unfolding int_bytes int_value
value-bytes t z w h =
    let width = halves t.bits w in
    let k = int_size t.bits in
    let n = twos t.bits z in
    let low : n < 256 ^ k = omega (arith, twos_below t.signed t.bits z width h.not_below h.not_above, width.bytes) in
    let number : number_of (in_order t.big (in_order t.big (low_first k n))) ≡ n = ap number_of (in_order_twice t.big (low_first k n)) ∙ number-low_first k n low in
    ap (value_of t.signed t.bits) number ∙ value_back t.signed t.bits z width h.not_below h.not_above

-- the bytes of a type are a number of its width
pub number_within : (t : IntType) (bs : List ℕ) → IsWidth t.bits → AllByRecursion (λ b. b < 256) bs → length bs ≡ int_size t.bits → number_of (in_order t.big bs) < 2 ^ t.bits
number_within t bs w h e =
    let below = number_below (in_order t.big bs) (each_in_order t.big bs h) in
    let same : 256 ^ length (in_order t.big bs) ≡ 2 ^ t.bits = ap (λ m. 256 ^ m) (length-in_order t.big bs ∙ e) ∙ (halves t.bits w).bytes in
    omega (arith, below, same)

pub bytes-value : (t : IntType) (bs : List ℕ) → IsWidth t.bits → AllByRecursion (λ b. b < 256) bs → length bs ≡ int_size t.bits → int_bytes t (int_value t bs) ≡ bs
unfolding int_bytes int_value
bytes-value t bs w h e =
    let turned = in_order t.big bs in
    let n = number_of turned in
    let number = twos_back t.signed t.bits n (halves t.bits w) (number_within t bs w h e) in
    let size : int_size t.bits ≡ length turned = sym (length-in_order t.big bs ∙ e) in
    ap (λ m. in_order t.big (low_first (int_size t.bits) m)) number ∙ ap (λ k. in_order t.big (low_first k n)) size ∙ ap (in_order t.big) (low_first-number turned (each_in_order t.big bs h)) ∙ in_order_twice t.big bs

pub value_in_range : (t : IntType) (bs : List ℕ) → IsWidth t.bits → AllByRecursion (λ b. b < 256) bs → length bs ≡ int_size t.bits → IsInRange t (int_value t bs)
unfolding int_value
value_in_range t bs w h e =
    let within = value_within t.signed t.bits (number_of (in_order t.big bs)) (halves t.bits w) (number_within t bs w h e) in
    record { not_below = within.0; not_above = within.1 }

pub zero_in_range : (t : IntType) → IsWidth t.bits → IsInRange t (pos 0)
zero_in_range t w =
    let within = zero_within t.signed t.bits in
    record { not_below = within.0; not_above = within.1 }

pub zero_bytes : (t : IntType) → int_bytes t (pos 0) ≡ replicate (int_size t.bits) 0
unfolding int_bytes
zero_bytes t = ap (in_order t.big) (low_first-zero (int_size t.bits)) ∙ in_order-zeros t.big (int_size t.bits)

-- a number of a type is one of its width, signed or not
width_both : (signed : Bool) (bits : ℕ) (z : ℤ) → Halves bits → lowest signed bits ≤ℤ z → z ≤ℤ highest signed bits → (negsuc (2 ^ (bits - 1) - 1) ≤ℤ z) × (z ≤ℤ pos (2 ^ bits - 1))
width_both true bits z w l g = (l, omega (arith, ints))
width_both false bits z w l g = (omega (arith, ints), g)

pub width_told : (t : IntType) (z : ℤ) → IsWidth t.bits → in_range t z ≡ true → (negsuc (2 ^ (t.bits - 1) - 1) ≤ℤ z) × (z ≤ℤ pos (2 ^ t.bits - 1))
width_told t z w e =
    let h = range_told t z e in
    width_both t.signed t.bits z (halves t.bits w) h.not_below h.not_above

-- a number of a type is below the end of its width in two's complement
pub twos_within : (t : IntType) (z : ℤ) → IsWidth t.bits → in_range t z ≡ true → twos t.bits z < 2 ^ t.bits
twos_within t z w e =
    let h = range_told t z e in
    twos_below t.signed t.bits z (halves t.bits w) h.not_below h.not_above

-- as many bytes as a width has are of that width
pub width_again : (bits n : ℕ) → IsWidth bits → n ≡ bits / 8 → IsWidth (8 * n)
width_again bits n (inl e) h = inl (omega arith)
width_again bits n (inr (inl e)) h = inr (inl (omega arith))
width_again bits n (inr (inr (inl e))) h = inr (inr (inl (omega arith)))
width_again bits n (inr (inr (inr e))) h = inr (inr (inr (omega arith)))

pub bytes_told : (t : IntType) (z : ℤ) (big : Bool) (k n : ℕ) → t.big ≡ big → k ≡ int_size t.bits → n ≡ twos t.bits z → in_order big (low_first k n) ≡ int_bytes t z
unfolding int_bytes
bytes_told t z big k n b l e = ap (λ m. in_order big (low_first m n)) l ∙ ap (λ m. in_order big (low_first (int_size t.bits) m)) e ∙ ap (λ o. in_order o (low_first (int_size t.bits) (twos t.bits z))) (sym b)

pub value_told : (t : IntType) (bs : List ℕ) (n : ℕ) (signed big : Bool) → t.signed ≡ signed → t.big ≡ big → n ≡ number_of (in_order big bs) → value_of signed t.bits n ≡ int_value t bs
unfolding int_value
value_told t bs n signed big s b e =
    let number : n ≡ number_of (in_order t.big bs) = e ∙ ap (λ o. number_of (in_order o bs)) (sym b) in
    ap (λ o. value_of o t.bits n) (sym s) ∙ ap (value_of t.signed t.bits) number

one_behind : (p k n m : ℕ) → p * k ≡ n → m ≡ n + k → (p + 1) * k ≡ m
one_behind p k n m h e = omega arith

-- the place behind one number more
pub place_behind : (t : IntType) (z : ℤ) (p : ℕ) (old new : List ℕ) → new ≡ old ++ int_bytes t z → p * int_size t.bits ≡ length old → (p + 1) * int_size t.bits ≡ length new
place_behind t z p old new e h =
    let more = ap length e ∙ length-append old (int_bytes t z) ∙ ap (λ k. length old + k) (length-int_bytes t z) in
    one_behind p (int_size t.bits) (length old) (length new) h more
