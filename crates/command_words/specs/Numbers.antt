-- The numbers that words spell.
--     number_of text      the number that 1 to 10 digits spell, or None
--     number_between least most text      the same, where it lies between two others
use Rattle.std.specs.Prelude.{ℕ, Bool, ◌&&◌, nat_lt, nat_le, if◌then◌else◌, length, Option, Some, None}
use Rattle.std.specs.Prelude.{option_and_then}
use Rattle.std.specs.List.{list_all}
use Rattle.std.specs.Char.{is_ascii_digit}
use Rattle.std.specs.Str.Parse.{digits_value}
use Rattle.command_words.specs.Lines.{Text}

-- 1 to 10 digits, and no sign
abbrev pub is_number : Text → Bool
is_number text = nat_lt 0 (length text) && (nat_le (length text) 10 && list_all is_ascii_digit text)

abbrev pub number_of : Text → Option ℕ
number_of text = if is_number text then Some (digits_value 10 text) else None

-- both ends are numbers that may be spelled
abbrev pub within : ℕ → ℕ → ℕ → Option ℕ
within least most number = if nat_le least number && nat_le number most then Some number else None

abbrev pub number_between : ℕ → ℕ → Text → Option ℕ
number_between least most text = option_and_then (within least most) (number_of text)
