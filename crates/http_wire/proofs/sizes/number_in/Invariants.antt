use Rattle.std.proofs.Common.{◌≡◌, take}
use Rattle.std.specs.Str.Parse.{digits_value}
use Rattle.http_wire.proofs.sizes.number_in.Given as goal

-- the digits so far spell the number
abbrev pub invariant-digits : goal.invariant-digits
invariant-digits l = l.number ≡ digits_value 10 (take l.digit-index l.text)
