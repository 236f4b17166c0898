use Rattle.std.proofs.Common.{◌<◌, ◌*◌, ◌+◌, ◌++◌, drop, length, ap, ◌∙◌, arith}
use Rattle.std.proofs.lemmas.List.{length_push}
use Rattle.chunk_layout.specs.Chunks.{corner}
use Rattle.chunk_store.proofs.SlabLemmas.{corner_next, corner_end}
use Rattle.chunk_store.proofs.slabs.first_cell.Goals as goal

pub loop-axis-preserved : goal.loop-axis-preserved
loop-axis-preserved c =
    let i = c.loop-axis.axis in
    let x = c.get.result * c.get-in-loop-axis.result in
    let one : c.loop-axis.axis < length c.args.index.now = omega arith in
    let two : c.loop-axis.axis < length c.args.chunk.now = omega (arith, c.requires.index.rank) in
    record {
      at_so = ap (λ ns. ns ++ corner (drop (i + 1) c.args.index.now) (drop (i + 1) c.args.chunk.now)) c.push.ensures ∙ corner_next i c.args.index.now c.args.chunk.now c.loop-axis.at _ _ _ one two c.get.ensures c.get-in-loop-axis.ensures c.loop-axis.invariant.at_so;
      long = ap length c.push.ensures ∙ length_push c.loop-axis.at x ∙ omega (arith, c.loop-axis.invariant.long);
    }

pub returns : goal.returns
returns c = corner_end c.loop-axis.axis c.args.index.now c.args.chunk.now c.loop-axis.at _ (omega arith) c.loop-axis.invariant.at_so
