use Rattle.std.proofs.Common.{take}
use Rattle.chunk_store.proofs.PointLemmas.{point_held, point_rest, point_written}
use Rattle.chunk_store.proofs.TurnLemmas.{written_there}
use Rattle.chunk_store.proofs.points.write_points.Goals as goal

pub write_stretch-requires-clause-there : goal.write_stretch-requires-clause-there
write_stretch-requires-clause-there c =
    let ats = c.args.points.now in
    let now = written_there c.args.chunks.now c.loop-at.chunks c.args.frame.now (take c.loop-at.at-index ats) ats _ c.loop-at.invariant.written c.requires.there in
    point_held c.loop-at.chunks c.args.frame.now ats c.loop-at.at-index c.at-item.result c.stretch_of.result now c.loop-at-test.true c.at-item.is c.stretch_of.ensures.cell

pub loop-at-preserved : goal.loop-at-preserved
loop-at-preserved c =
    let f = c.args.frame.now in
    let k = c.loop-at.at-index in
    let bytes = c.args.bytes.now in
    let rest = c.loop-at.rest.now in
    record {
      rest = point_rest f.size k bytes rest _ c.loop-at.invariant.rest c.split_at.ensures.back;
      written =
          point_written c.args.chunks.now c.loop-at.chunks c.write_stretch.new.chunks f c.args.points.now k c.at-item.result c.loop-at-test.true c.at-item.is bytes rest _ c.requires.bytes c.loop-at.invariant.rest c.split_at.ensures.front c.loop-at.invariant.written
          (c.write_stretch.ensures _ c.stretch_of.ensures.cell);
    }
