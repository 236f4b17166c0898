-- The total stays at or below the linear index, which is below the number of cells.
use Rattle.std.proofs.Common.{◌<◌, ◌≤◌, length, arith}
use Rattle.json_trees.proofs.TreeLemmas.{length-AllZip}
use Rattle.shapes.specs.RowMajor.{linear_index}
use Rattle.shapes.proofs.RowMajorLemmas.{horner_bound, horner_end, index_below}
use Rattle.shapes.proofs.row_major.linear_index_in.Goals as goal

pub overflow_mul-total : goal.overflow_mul-total
overflow_mul-total c =
    let same = length-AllZip (λ x n. x < n) c.args.at.now c.args.dims.now c.requires.inside in
    let inner : c.loop-axis.axis < length c.args.dims.now = omega arith in
    let within : c.loop-axis.axis < length c.args.at.now = omega (arith, same) in
    let below = horner_bound c.loop-axis.total c.loop-axis.axis c.args.at.now c.args.dims.now (linear_index c.args.at.now c.args.dims.now) inner within c.loop-axis.invariant.inside c.loop-axis.invariant.total in
    omega (arith, below, index_below c.args.at.now c.args.dims.now c.requires.inside)

pub overflow_add-total : goal.overflow_add-total
overflow_add-total c =
    let same = length-AllZip (λ x n. x < n) c.args.at.now c.args.dims.now c.requires.inside in
    let inner : c.loop-axis.axis < length c.args.dims.now = omega arith in
    let within : c.loop-axis.axis < length c.args.at.now = omega (arith, same) in
    let below = horner_bound c.loop-axis.total c.loop-axis.axis c.args.at.now c.args.dims.now (linear_index c.args.at.now c.args.dims.now) inner within c.loop-axis.invariant.inside c.loop-axis.invariant.total in
    omega (arith, below, index_below c.args.at.now c.args.dims.now c.requires.inside)

pub returns : goal.returns
returns c =
    let same = length-AllZip (λ x n. x < n) c.args.at.now c.args.dims.now c.requires.inside in
    let past : length c.args.dims.now ≤ c.loop-axis.axis = omega arith in
    let beyond : length c.args.at.now ≤ c.loop-axis.axis = omega (arith, same) in
    horner_end c.loop-axis.total c.loop-axis.axis c.args.at.now c.args.dims.now (linear_index c.args.at.now c.args.dims.now) past beyond c.loop-axis.invariant.total
