-- What is made so far, in front of the cell of the axes that are left.
use Rattle.std.proofs.Common.{◌<◌, ◌≤◌, length, ap, sym, ◌∙◌, arith}
use Rattle.std.proofs.lemmas.List.{length_push}
use Rattle.chunk_layout.specs.Chunks.{cell_at}
use Rattle.chunk_layout.proofs.CellLemmas.{digit_below, cell_pushed, cell_end}
use Rattle.chunk_layout.proofs.cells.stepped.Goals as goal

pub number-requires-clause-digit : goal.number-requires-clause-digit
number-requires-clause-digit c =
    let ns = c.args.layout.now.chunk in
    let within : c.loop-axis.axis < length c.args.layout.now.chunk = omega arith in
    rw c.get-n.ensures (digit_below c.loop-axis.axis c.loop-axis.rest c.loop-axis.step ns within c.loop-axis.invariant.step c.loop-axis.invariant.rest)

pub loop-axis-preserved : goal.loop-axis-preserved
loop-axis-preserved c =
    let qs = c.args.index.now in
    let ns = c.args.layout.now.chunk in
    let before = c.loop-axis.invariant in
    let along : c.loop-axis.axis < length c.args.index.now = omega arith in
    let within : c.loop-axis.axis < length c.args.layout.now.chunk = omega arith in
    let after = cell_pushed c.loop-axis.axis qs ns c.loop-axis.coords c.push.new.self (cell_at qs c.args.offset ns) c.loop-axis.rest c.loop-axis.step c.get-n.result c.get.result c.number.result
    along within before.step before.rest c.get-n.ensures c.get.ensures c.number.ensures c.push.ensures before.whole in
    record {
      whole = after.0;
      step = after.1;
      rest = after.2;
      short = omega (arith, ap length c.push.ensures, length_push c.loop-axis.coords c.number.result, before.short);
    }

pub returns : goal.returns
returns c =
    let past : length c.args.index.now ≤ c.loop-axis.axis = omega arith in
    sym (cell_end c.loop-axis.axis c.args.index.now c.args.layout.now.chunk c.loop-axis.coords c.loop-axis.rest past) ∙ c.loop-axis.invariant.whole
