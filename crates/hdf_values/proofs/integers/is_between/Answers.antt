-- The two tests, on numbers that fit.
use Rattle.hdf_values.proofs.IntegerLemmas.{both_tests, first_fails}
use Rattle.hdf_values.proofs.integers.is_between.Goals as goal

pub returns-then-low-value : goal.returns-then-low-value
returns-then-low-value c = both_tests c.args.low c.args.value c.args.high c.ranges.low c.ranges.value c.ranges.high c.if-low-value.true

pub returns-else-low-value : goal.returns-else-low-value
returns-else-low-value c = first_fails c.args.low c.args.value c.args.high c.ranges.low c.ranges.value c.if-low-value.false
