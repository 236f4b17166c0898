-- Lengths that texts spell.
use Rattle.std.proofs.Common.{◌≡◌, ℕ, ◌+◌, ◌-◌, ◌*◌, ◌^◌, ◌<◌, ◌≤◌, List, length, take, get_or, Bool, true, false, ◌||◌, cond, nat_eq, nat_lt, nat_le, decimal, Ok, refl, ap, ◌∙◌, arith}
use Rattle.std.proofs.lemmas.Bool.Decides.{nat_tests}
use Rattle.std.proofs.lemmas.Str.{digit_value_digit}
use Rattle.std.proofs.lemmas.Str.Parse.{tells_all_ascii_digits, numerals_by_value, digits_value_short, digits_value-take-le, digit_at}
use Rattle.std.proofs.lemmas.Fmt.{decimal_is_IsNumeral, length-decimal-le}
use Rattle.std.proofs.lemmas.Int.Digits.{digits_value_more}
use Rattle.std.specs.List.{list_all}
use Rattle.std.specs.Char.{is_ascii_digit, digit_value}
use Rattle.std.specs.Str.Parse.{AllDigits, digits_value}
use Rattle.http_wire.specs.Messages.{is_number, length_in}
use Rattle.http_wire.specs.declared.limits.TheConstants.{BODY_LIMIT}

-- a number is digits, of which there are few
pub number_facts : (text : List ℕ) → is_number text ≡ true → (list_all is_ascii_digit text ≡ true) × (length text ≤ 19)
number_facts text e = by_test (nat_eq (length text) 0 || nat_lt 19 (length text)) refl e
  where
    by_test : (t : Bool) → (nat_eq (length text) 0 || nat_lt 19 (length text)) ≡ t → cond t false (list_all is_ascii_digit text) ≡ true
        → (list_all is_ascii_digit text ≡ true) × (length text ≤ 19)
    by_test true h f = absurd (let e : false ≡ true = f in cc)
    by_test false h f = (f, grind (arith, nat_tests))

all_digits : (text : List ℕ) → list_all is_ascii_digit text ≡ true → AllDigits 10 text
all_digits text e = (numerals_by_value _ tells_all_ascii_digits).to text e

-- one more digit
pub one_more : (text : List ℕ) (i : ℕ) → is_number text ≡ true → i < length text
    → (digits_value 10 (take (i + 1) text) ≡ digits_value 10 (take i text) * 10 + (get_or text i 0 - 48)) × (digits_value 10 (take (i + 1) text) < 10 ^ 19)
one_more text i e inside =
    let facts = number_facts text e in
    let digits = all_digits text facts.0 in
    let digit = digit_value_digit (get_or text i 0) (digit_at text i digits inside) in
    let value : digit_value (get_or text i 0) ≡ get_or text i 0 - 48 = omega (arith, digit) in
    let whole = digits_value_short (numerals_by_value _ tells_all_ascii_digits) text 19 facts.0 facts.1 in
    let part = digits_value-take-le 10 text (i + 1) (omega arith) in
    (digits_value_more 10 text i inside ∙ ap (λ (d : ℕ). digits_value 10 (take i text) * 10 + d) value, omega (arith, whole, part))

-- decimal digits of a small number are a number
pub decimal_is_number : (n : ℕ) → n ≤ BODY_LIMIT → (is_number (decimal n) ≡ true) × (digits_value 10 (decimal n) ≡ n)
decimal_is_number n small =
    let numeral = decimal_is_IsNumeral n (omega arith) in
    let some = numeral.0.0 in
    let short = length-decimal-le 19 n (omega arith) in
    let digits = (numerals_by_value _ tells_all_ascii_digits).from (decimal n) numeral.0.1 in
    (by_test (nat_eq (length (decimal n)) 0 || nat_lt 19 (length (decimal n))) (list_all is_ascii_digit (decimal n)) (grind (arith, nat_tests)) digits, numeral.1)
  where
    by_test : (t all : Bool) → t ≡ false → all ≡ true → cond t false all ≡ true
    by_test true all off on = absurd (let e : true ≡ false = off in cc)
    by_test false all off on = on

-- and spell a length
pub length_in_decimal : (n : ℕ) → n ≤ BODY_LIMIT → length_in (decimal n) ≡ Ok n
length_in_decimal n small =
    let facts = decimal_is_number n small in
    let is = facts.0 in
    let value = facts.1 in
    let fits : nat_le n BODY_LIMIT ≡ true = grind (arith, nat_tests) in
    rw (is, value, fits) refl
