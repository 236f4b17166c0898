use Rattle.std.proofs.Common.{arith}
use Rattle.shapes.proofs.CellLemmas.{count_small}
use Rattle.chunk_store.proofs.ChangeLemmas.{keeps_both}
use Rattle.chunk_store.proofs.PlaceWalkLemmas.{grown_step, there_step}
use Rattle.chunk_store.proofs.places.grow_places.Goals as goal

pub overflow_add-from : goal.overflow_add-from
overflow_add-from c = omega (arith, count_small c.args.shape.now c.requires.sound, c.requires.inside, c.loop-done-test.true)

pub loop-done-preserved : goal.loop-done-preserved
loop-done-preserved c =
    let t = c.stretch_at-stretch.result in
    record {
      few = omega (arith, c.stretch_at-stretch.ensures.few, c.loop-done-test.true);
      grown = grown_step c.args.chunks.now c.loop-done.chunks c.add_chunk.new.chunks c.args.frame.now c.args.shape.now c.args.from c.loop-done.done t c.stretch_at-stretch.ensures.cells c.loop-done.invariant.grown c.add_chunk.ensures.same c.add_chunk.ensures.full c.add_chunk.ensures.noted;
      there = there_step c.loop-done.chunks c.add_chunk.new.chunks c.args.frame.now c.args.shape.now c.args.from c.loop-done.done t c.stretch_at-stretch.ensures.cells c.loop-done.invariant.there c.add_chunk.ensures.more c.in_ok-add_chunk.ensures.there;
      undone = λ before was. c.add_chunk.ensures.undone before (c.loop-done.invariant.undone before was);
      keeps = keeps_both c.args.changes.now c.loop-done.changes c.add_chunk.new.changes c.loop-done.invariant.keeps c.add_chunk.ensures.keeps;
      listed = there_step c.loop-done.changes.listed c.add_chunk.new.changes.listed c.args.frame.now c.args.shape.now c.args.from c.loop-done.done t c.stretch_at-stretch.ensures.cells c.loop-done.invariant.listed c.add_chunk.ensures.keeps.more c.in_ok-add_chunk.ensures.listed;
    }

pub returns-in_err-add_chunk-clause-undone : goal.returns-in_err-add_chunk-clause-undone
returns-in_err-add_chunk-clause-undone c = λ before was. c.add_chunk.ensures.undone before (c.loop-done.invariant.undone before was)

pub returns-in_err-add_chunk-clause-keeps : goal.returns-in_err-add_chunk-clause-keeps
returns-in_err-add_chunk-clause-keeps c = keeps_both c.args.changes.now c.loop-done.changes c.add_chunk.new.changes c.loop-done.invariant.keeps c.add_chunk.ensures.keeps
