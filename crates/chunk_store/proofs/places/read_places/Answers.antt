use Rattle.std.proofs.Common.{arith}
use Rattle.shapes.proofs.CellLemmas.{count_small}
use Rattle.chunk_store.specs.Buffers.{bytes_at}
use Rattle.chunk_store.proofs.PlaceWalkLemmas.{read_more}
use Rattle.chunk_store.proofs.places.read_places.Goals as goal

pub overflow_add-from : goal.overflow_add-from
overflow_add-from c = omega (arith, count_small c.args.shape.now c.requires.sound, c.requires.inside, c.loop-done-test.true)

pub loop-done-preserved : goal.loop-done-preserved
loop-done-preserved c = record {
  few = omega (arith, c.stretch_at-stretch.ensures.few, c.loop-done-test.true);
  read =
      read_more (bytes_at c.args.chunks.now c.args.frame.now) c.args.from c.loop-done.done c.stretch_at-stretch.result.len c.args.shape.now c.loop-done.out.items c.read_stretch.new.out.items c.loop-done.invariant.read
      (c.in_ok-read_stretch.ensures _ c.stretch_at-stretch.ensures.cells);
}
