-- Whole numbers as two's complement bytes.
use Rattle.std.specs.Prelude.{ℕ, zero, suc, ◌+◌, ◌-◌, ◌*◌, ◌/◌, ◌%◌, ◌^◌, ℤ, pos, negsuc, ◌≤ℤ◌, ◌&&◌, Bool, List, [], ◌∷◌, reverse, Option, option_and_then, nat_lt, int_le, if◌then◌else◌}
use Rattle.serde_json.specs.Data.{Data}
use Rattle.serde_json.specs.Find.{as_number, as_integer}
use Rattle.hdf_types.specs.declared.IntType.{IntType}
use Rattle.hdf_types.specs.Reading.{int_size}

-- the whole number that a tree is
abbrev pub integer_in : Data → Option ℤ
integer_in d = option_and_then as_integer (as_number d)

-- the least and the greatest number of a type

abbrev pub least : IntType → ℤ
least t = if t.signed then negsuc (2 ^ (t.bits - 1) - 1) else pos 0

abbrev pub greatest : IntType → ℤ
greatest t = if t.signed then pos (2 ^ (t.bits - 1) - 1) else pos (2 ^ t.bits - 1)

pub record IsInRange (t : IntType) (z : ℤ) : Type 0 where
  pub not_below : least t ≤ℤ z
  pub not_above : z ≤ℤ greatest t

unfoldable pub in_range : IntType → ℤ → Bool
in_range t z = int_le (least t) z && int_le z (greatest t)

-- ---- bytes

-- `k` bytes of a number, the lowest first
abbrev pub low_first : ℕ → ℕ → List ℕ
low_first zero n = []
low_first (suc k) n = n % 256 ∷ low_first k (n / 256)

-- the number that such bytes are
abbrev pub number_of : List ℕ → ℕ
number_of [] = 0
number_of (b ∷ bs) = b + 256 * number_of bs

abbrev pub in_order : Bool → List ℕ → List ℕ
in_order big bs = if big then reverse bs else bs

-- two's complement
abbrev pub twos : ℕ → ℤ → ℕ
twos bits (pos n) = n
twos bits (negsuc m) = 2 ^ bits - 1 - m

abbrev pub signed_of : ℕ → ℕ → ℤ
signed_of bits n = if nat_lt n (2 ^ (bits - 1)) then pos n else negsuc (2 ^ bits - 1 - n)

-- the bytes of a number
unfoldable pub int_bytes : IntType → ℤ → List ℕ
int_bytes t z = in_order t.big (low_first (int_size t.bits) (twos t.bits z))

-- the number that bytes are
unfoldable pub int_value : IntType → List ℕ → ℤ
int_value t bs = if t.signed then signed_of t.bits (number_of (in_order t.big bs)) else pos (number_of (in_order t.big bs))
