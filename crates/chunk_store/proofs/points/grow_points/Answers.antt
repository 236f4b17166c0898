use Rattle.chunk_store.proofs.ChangeLemmas.{keeps_both}
use Rattle.chunk_store.proofs.PointLemmas.{point_grown, point_there}
use Rattle.chunk_store.proofs.points.grow_points.Goals as goal

pub loop-at-preserved : goal.loop-at-preserved
loop-at-preserved c =
    let m = c.args.chunks.now in
    let n = c.loop-at.chunks in
    let p = c.add_chunk.new.chunks in
    let f = c.args.frame.now in
    let ats = c.args.points.now in
    let k = c.loop-at.at-index in
    let at = c.at-item.result in
    let index = c.chunk_of.result in
    record {
      grown = point_grown m n p f ats k at c.loop-at-test.true c.at-item.is index c.chunk_of.ensures c.loop-at.invariant.grown c.add_chunk.ensures.same c.add_chunk.ensures.full c.add_chunk.ensures.noted;
      there = point_there n p f ats k at c.loop-at-test.true c.at-item.is index c.chunk_of.ensures c.loop-at.invariant.there c.add_chunk.ensures.more c.in_ok-add_chunk.ensures.there;
      undone = λ before was. c.add_chunk.ensures.undone before (c.loop-at.invariant.undone before was);
      keeps = keeps_both c.args.changes.now c.loop-at.changes c.add_chunk.new.changes c.loop-at.invariant.keeps c.add_chunk.ensures.keeps;
      listed = point_there c.loop-at.changes.listed c.add_chunk.new.changes.listed f ats k at c.loop-at-test.true c.at-item.is index c.chunk_of.ensures c.loop-at.invariant.listed c.add_chunk.ensures.keeps.more c.in_ok-add_chunk.ensures.listed;
    }

pub returns-in_err-add_chunk-clause-undone : goal.returns-in_err-add_chunk-clause-undone
returns-in_err-add_chunk-clause-undone c = λ before was. c.add_chunk.ensures.undone before (c.loop-at.invariant.undone before was)

pub returns-in_err-add_chunk-clause-keeps : goal.returns-in_err-add_chunk-clause-keeps
returns-in_err-add_chunk-clause-keeps c = keeps_both c.args.changes.now c.loop-at.changes c.add_chunk.new.changes c.loop-at.invariant.keeps c.add_chunk.ensures.keeps
