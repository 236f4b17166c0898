-- The test is that of the range.
use Rattle.std.proofs.Common.{ap, ◌∙◌, FitsSigned}
use Rattle.std.specs.Int.{w128}
use Rattle.std.proofs.lemmas.Int.{to_z-of_z}
use Rattle.hdf_values.specs.Integers.{in_range as is_in_range}
use Rattle.hdf_values.proofs.IntegerLemmas.{range_test}
use Rattle.hdf_values.proofs.integers.in_range.Goals as goal

pub returns : goal.returns
returns c =
    let t = c.args.int.now in
    let low : FitsSigned w128 c.least.result = record { sfits = c.least.type_inv } in
    let high : FitsSigned w128 c.greatest.result = record { sfits = c.greatest.type_inv } in
    range_test t c.is_between.result c.least.result _ c.greatest.result low high c.least.ensures c.greatest.ensures c.is_between.ensures
    ∙ ap (is_in_range t) (to_z-of_z w128 c.args.value c.ranges.value)
