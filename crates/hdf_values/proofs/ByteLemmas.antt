-- The eight bytes of a number, in either order, and those in front.
use Rattle.std.proofs.Common.{◌≡◌, ℕ, zero, suc, ◌+◌, ◌-◌, ◌*◌, ◌/◌, ◌%◌, ◌^◌, ◌<◌, ◌≤◌, List, [], ◌∷◌, ◌++◌, length, get_or, take, reverse, inl, inr, refl, sym, ap, subst, ◌∙◌, arith, mul_comm}
use Rattle.std.specs.Int.{w64, byte_at, bytes_low_first, bytes_high_first, to_le_bytes, to_be_bytes, from_le_bytes}
use Rattle.std.proofs.Math.Nat.{pow-suc, one-le-pow, div-one, div-div-eq-div-mul, mul-div_cancel}
use Rattle.std.proofs.lemmas.List.{reverse-append}
use Rattle.std.proofs.lemmas.Nat.{pow-add, shl_whole}
use Rattle.hdf_types.specs.Reading.{int_size}
use Rattle.hdf_types.specs.Types.{IsWidth}
use Rattle.hdf_values.specs.Integers.{low_first, number_of}

-- ---- byte by byte

byte_told : (i n : ℕ) → byte_at i n ≡ n / 256 ^ i % 256
byte_told zero n = ap (λ m. m % 256) (sym (div-one n))
byte_told (suc i) n = refl

next_byte : (i n : ℕ) → n / 256 ^ i / 256 ≡ n / 256 ^ suc i
next_byte i n = div-div-eq-div-mul n (256 ^ i) 256 ∙ ap (λ m. n / m) (sym (pow-suc 256 i))

pub low_from : (k i n : ℕ) → bytes_low_first i k n ≡ low_first k (n / 256 ^ i)
low_from zero i n = refl
low_from (suc k) i n =
    ap (λ b. b ∷ bytes_low_first (suc i) k n) (byte_told i n)
    ∙ ap (λ bs. n / 256 ^ i % 256 ∷ bs) (low_from k (suc i) n ∙ ap (low_first k) (sym (next_byte i n)))

take_low : (j k n : ℕ) → j ≤ k → take j (low_first k n) ≡ low_first j n
take_low zero k n h = refl
take_low (suc j) zero n h = absurd (omega arith)
take_low (suc j) (suc k) n h = ap (λ bs. n % 256 ∷ bs) (take_low j k (n / 256) (omega arith))

-- the highest byte stands behind the others
low_more : (k n : ℕ) → low_first (suc k) n ≡ low_first k n ++ (n / 256 ^ k % 256) ∷ []
low_more zero n = ap (λ m. m % 256 ∷ []) (sym (div-one n))
low_more (suc k) n =
    let higher : n / 256 / 256 ^ k ≡ n / 256 ^ suc k = div-div-eq-div-mul n 256 (256 ^ k) ∙ ap (λ m. n / m) (mul_comm 256 (256 ^ k) ∙ sym (pow-suc 256 k)) in
    ap (λ bs. n % 256 ∷ bs) (low_more k (n / 256)) ∙ ap (λ m. n % 256 ∷ (low_first k (n / 256) ++ m % 256 ∷ [])) higher

high_reverse : (k n : ℕ) → bytes_high_first k n ≡ reverse (low_first k n)
high_reverse zero n = refl
high_reverse (suc k) n =
    ap (λ b. b ∷ bytes_high_first k n) (byte_told k n)
    ∙ ap (λ bs. n / 256 ^ k % 256 ∷ bs) (high_reverse k n)
    ∙ sym (ap reverse (low_more k n) ∙ reverse-append (low_first k n) (n / 256 ^ k % 256 ∷ []))

-- ---- a number in front of `d` bytes of zeros

shifted_byte : (i d n : ℕ) → byte_at (i + d) (n * 256 ^ d) ≡ byte_at i n
shifted_byte i d n =
    let some : 0 < 256 ^ d = omega (arith, one-le-pow d 256 (omega arith)) in
    let parts : 256 ^ (i + d) ≡ 256 ^ d * 256 ^ i = pow-add 256 i d ∙ mul_comm (256 ^ i) (256 ^ d) in
    let same : n * 256 ^ d / 256 ^ (i + d) ≡ n / 256 ^ i =
    ap (λ m. n * 256 ^ d / m) parts ∙ sym (div-div-eq-div-mul (n * 256 ^ d) (256 ^ d) (256 ^ i)) ∙ ap (λ m. m / 256 ^ i) (mul-div_cancel n some) in
    byte_told (i + d) (n * 256 ^ d) ∙ ap (λ m. m % 256) same ∙ sym (byte_told i n)

high_shifted : (j d m n : ℕ) → m ≡ j + d → take j (bytes_high_first m (n * 256 ^ d)) ≡ bytes_high_first j n
high_shifted zero d m n e = refl
high_shifted (suc j) d zero n e = absurd (omega arith)
high_shifted (suc j) d (suc m) n e =
    let less : m ≡ j + d = omega arith in
    ap (λ b. b ∷ take j (bytes_high_first m (n * 256 ^ d))) (ap (λ i. byte_at i (n * 256 ^ d)) less ∙ shifted_byte j d n)
    ∙ ap (λ bs. byte_at j n ∷ bs) (high_shifted j d m n less)

-- ---- the widths

record FillsUp (bits : ℕ) : Type 0 where
  few : int_size bits ≤ 8
  narrow : bits ≤ 64
  shift : 2 ^ (64 - bits) ≡ 256 ^ (8 - int_size bits)

fills_up : (bits : ℕ) → IsWidth bits → FillsUp bits
fills_up bits (inl e) = subst FillsUp (sym e) (record { few = omega arith; narrow = omega arith; shift = refl })
fills_up bits (inr (inl e)) = subst FillsUp (sym e) (record { few = omega arith; narrow = omega arith; shift = refl })
fills_up bits (inr (inr (inl e))) = subst FillsUp (sym e) (record { few = omega arith; narrow = omega arith; shift = refl })
fills_up bits (inr (inr (inr e))) = subst FillsUp (sym e) (record { few = omega arith; narrow = omega arith; shift = refl })

-- the bytes in front of the eight, the lowest first
pub low_front : (bits n : ℕ) → IsWidth bits → take (int_size bits) (to_le_bytes w64 n) ≡ low_first (int_size bits) n
low_front bits n w =
    ap (take (int_size bits)) (low_from 8 0 n ∙ ap (low_first 8) (div-one n)) ∙ take_low (int_size bits) 8 n (fills_up bits w).few

-- those of the number that was moved to the front, the highest first
pub high_front : (bits n : ℕ) → IsWidth bits → n < 2 ^ bits → take (int_size bits) (to_be_bytes w64 ((n * 2 ^ (64 - bits)) % 2 ^ 64)) ≡ reverse (low_first (int_size bits) n)
high_front bits n w h =
    let width = fills_up bits w in
    let all : 8 ≡ int_size bits + (8 - int_size bits) = omega (arith, width.few) in
    let moved : (n * 2 ^ (64 - bits)) % 2 ^ 64 ≡ n * 256 ^ (8 - int_size bits) = shl_whole n bits (64 - bits) 64 h (omega (arith, width.narrow)) ∙ ap (λ m. n * m) width.shift in
    ap (λ m. take (int_size bits) (bytes_high_first 8 m)) moved ∙ high_shifted (int_size bits) (8 - int_size bits) 8 n all ∙ high_reverse (int_size bits) n

-- ---- bytes read as one number

-- eight bytes, the lowest first
pub eight_low : (bs : List ℕ) → length bs ≡ 8
    → from_le_bytes w64 (get_or bs 0 0 ∷ get_or bs 1 0 ∷ get_or bs 2 0 ∷ get_or bs 3 0 ∷ get_or bs 4 0 ∷ get_or bs 5 0 ∷ get_or bs 6 0 ∷ get_or bs 7 0 ∷ []) ≡ number_of bs
eight_low [] l = absurd (omega arith)
eight_low (a ∷ []) l = absurd (omega arith)
eight_low (a ∷ b ∷ []) l = absurd (omega arith)
eight_low (a ∷ b ∷ c ∷ []) l = absurd (omega arith)
eight_low (a ∷ b ∷ c ∷ d ∷ []) l = absurd (omega arith)
eight_low (a ∷ b ∷ c ∷ d ∷ e ∷ []) l = absurd (omega arith)
eight_low (a ∷ b ∷ c ∷ d ∷ e ∷ f ∷ []) l = absurd (omega arith)
eight_low (a ∷ b ∷ c ∷ d ∷ e ∷ f ∷ g ∷ []) l = absurd (omega arith)
eight_low (a ∷ b ∷ c ∷ d ∷ e ∷ f ∷ g ∷ h ∷ []) l = omega arith
eight_low (a ∷ b ∷ c ∷ d ∷ e ∷ f ∷ g ∷ h ∷ x ∷ bs) l = absurd (omega arith)
