-- Fewer than all digits leave room for one more.
use Rattle.std.proofs.Common.{◌≤◌, arith}
use Rattle.hyperslab.specs.Steps.{ten_to}
use Rattle.hyperslab.proofs.DigitLemmas.{ten_below}
use Rattle.hyperslab.proofs.reading.longer.Goals as goal

pub overflow_mul-result : goal.overflow_mul-result
overflow_mul-result c =
    let few : ten_to c.args.count ≤ ten_to 9 = ten_below c.args.count 9 (omega arith) in
    omega (arith, few, c.requires.below)

pub overflow_add-result-then-count-lt-MAX_DIGITS : goal.overflow_add-result-then-count-lt-MAX_DIGITS
overflow_add-result-then-count-lt-MAX_DIGITS c =
    let few : ten_to c.args.count ≤ ten_to 9 = ten_below c.args.count 9 (omega arith) in
    omega (arith, few, c.requires.below)
