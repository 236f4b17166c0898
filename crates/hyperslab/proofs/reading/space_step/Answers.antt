-- ShortList digits, so a small number.
use Rattle.std.proofs.Common.{◌≤◌, arith}
use Rattle.hyperslab.specs.Steps.{ten_to, IsNumber}
use Rattle.hyperslab.specs.declared.TheConstants.{MAX_DIGITS}
use Rattle.hyperslab.specs.declared.reading.Number.TheVariants.{Digits}
use Rattle.hyperslab.proofs.DigitLemmas.{ten_below}
use Rattle.hyperslab.proofs.reading.space_step.Goals as goal

pub returns-in-Digits-clause-sound : goal.returns-in-Digits-clause-sound
returns-in-Digits-clause-sound c =
    let read : IsNumber (Digits c.in-Digits.count c.in-Digits.n) = rw c.in-Digits.is at c.requires in
    let few : ten_to c.in-Digits.count ≤ ten_to MAX_DIGITS = ten_below c.in-Digits.count MAX_DIGITS read.1 in
    omega (arith, few, read.0)
