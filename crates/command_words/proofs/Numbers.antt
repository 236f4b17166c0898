-- Numbers that words spell, as `parse` reads them.
use Rattle.std.proofs.Common.{◌≡◌, ℕ, ◌^◌, ◌<◌, ◌≤◌, length, true, Result, Ok, nat_lt, nat_le}
use Rattle.std.proofs.Common.{arith}
use Rattle.std.proofs.lemmas.Bool.{and_parts}
use Rattle.std.proofs.lemmas.Bool.Decides.{nat_tests}
use Rattle.std.proofs.lemmas.Str.Parse.{IsNumeralModel, digits_value_short, numerals_by_value, parse_gives}
use Rattle.std.proofs.lemmas.Str.Parse.{tells_all_ascii_digits}
use Rattle.std.specs.List.{list_all}
use Rattle.std.specs.Char.{is_ascii_digit}
use Rattle.std.specs.Str.Parse.{ParsesUnsigned, digits_value}
use Rattle.command_words.specs.Lines.{Text}
use Rattle.command_words.specs.Numbers.{is_number}

own : IsNumeralModel (λ text. list_all is_ascii_digit text ≡ true) (digits_value 10)
own = numerals_by_value _ tells_all_ascii_digits

-- digits of which there are few are read as the number that they spell
pub number_parsed : {E : Type 0} → (text : Text) (r : Result ℕ E) → ParsesUnsigned 64 10 text r
    → is_number text ≡ true → r ≡ Ok (digits_value 10 text)
number_parsed text r reads is =
    let parts = and_parts (nat_lt 0 (length text)) _ is in
    let rest = and_parts (nat_le (length text) 10) _ parts.1 in
    let some : 0 < length text = grind (arith, nat_tests, parts.0) in
    let few : length text ≤ 10 = grind (arith, nat_tests, rest.0) in
    let small : digits_value 10 text < 10 ^ 10 = digits_value_short own text 10 rest.1 few in
    parse_gives own 64 text r reads rest.1 some (omega (arith, small))
