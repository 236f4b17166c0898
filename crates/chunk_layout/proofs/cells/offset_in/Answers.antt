-- The total, times the cells that are left and with their linear index, is the offset.
use Rattle.std.proofs.Common.{◌<◌, ◌≤◌, length, get_or, refl, arith}
use Rattle.chunk_layout.proofs.CellLemmas.{inside_remainders, offset_below, step_bound, step_next, step_inside, step_end, step_first}
use Rattle.chunk_layout.proofs.cells.offset_in.Goals as goal

pub loop-axis-init : goal.loop-axis-init
loop-axis-init c = record {
  total = step_first c.args.at.now c.args.layout.now.chunk;
  inside = inside_remainders c.args.at.now c.args.layout.now.chunk c.requires.chunk.dims c.requires.ranks;
}

pub overflow_mul-total : goal.overflow_mul-total
overflow_mul-total c =
    let at = c.args.at.now in
    let ns = c.args.layout.now.chunk in
    let within : c.loop-axis.axis < length c.args.layout.now.chunk = omega arith in
    let below = step_bound c.loop-axis.total c.get-n.result (get_or at c.loop-axis.axis 0) c.loop-axis.axis at ns c.requires.chunk.dims c.requires.ranks within c.get-n.ensures refl c.loop-axis.invariant.inside c.loop-axis.invariant.total in
    let cells = c.requires.chunk.cells in
    omega (arith, below, cells)

pub overflow_add-total : goal.overflow_add-total
overflow_add-total c =
    let at = c.args.at.now in
    let ns = c.args.layout.now.chunk in
    let within : c.loop-axis.axis < length c.args.layout.now.chunk = omega arith in
    let below = step_bound c.loop-axis.total c.get-n.result c.get.result c.loop-axis.axis at ns c.requires.chunk.dims c.requires.ranks within c.get-n.ensures c.get.ensures c.loop-axis.invariant.inside c.loop-axis.invariant.total in
    let cells = c.requires.chunk.cells in
    omega (arith, below, cells)

pub loop-axis-preserved : goal.loop-axis-preserved
loop-axis-preserved c =
    let at = c.args.at.now in
    let ns = c.args.layout.now.chunk in
    let within : c.loop-axis.axis < length c.args.layout.now.chunk = omega arith in
    record {
      total = step_next c.loop-axis.total c.get-n.result c.get.result c.loop-axis.axis at ns c.requires.ranks within c.get-n.ensures c.get.ensures c.loop-axis.invariant.total;
      inside = step_inside c.loop-axis.axis at ns c.requires.ranks within c.loop-axis.invariant.inside;
    }

pub returns-clause-offset : goal.returns-clause-offset
returns-clause-offset c =
    let past : length c.args.layout.now.chunk ≤ c.loop-axis.axis = omega arith in
    step_end c.loop-axis.total c.loop-axis.axis c.args.at.now c.args.layout.now.chunk c.requires.ranks past c.loop-axis.invariant.total

pub returns-clause-below : goal.returns-clause-below
returns-clause-below c =
    let past : length c.args.layout.now.chunk ≤ c.loop-axis.axis = omega arith in
    let same = step_end c.loop-axis.total c.loop-axis.axis c.args.at.now c.args.layout.now.chunk c.requires.ranks past c.loop-axis.invariant.total in
    omega (arith, same, offset_below c.args.at.now c.args.layout.now.chunk c.requires.chunk.dims c.requires.ranks)
