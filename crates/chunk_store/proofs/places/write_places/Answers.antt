use Rattle.std.proofs.Common.{◌≤◌, ◌+◌, arith}
use Rattle.shapes.proofs.CellLemmas.{count_small}
use Rattle.chunk_store.specs.Picked.{cells_from}
use Rattle.chunk_store.proofs.PlaceWalkLemmas.{rest_more, rest_room, stretch_there, written_more}
use Rattle.chunk_store.proofs.TurnLemmas.{written_there}
use Rattle.chunk_store.proofs.places.write_places.Goals as goal

pub overflow_add-from : goal.overflow_add-from
overflow_add-from c = omega (arith, count_small c.args.shape.now c.requires.sound, c.requires.inside, c.loop-done-test.true)

pub split_at-requires : goal.split_at-requires
split_at-requires c =
    rest_room c.args.frame.now.size c.loop-done.done c.stretch_at-stretch.result.len c.args.many c.args.bytes.now c.loop-done.rest.now (omega (arith, c.stretch_at-stretch.ensures.few, c.loop-done-test.true)) c.requires.bytes c.loop-done.invariant.rest

pub write_stretch-requires-clause-there : goal.write_stretch-requires-clause-there
write_stretch-requires-clause-there c =
    let f = c.args.frame.now in
    let s = c.args.shape.now in
    let ats = cells_from c.args.from c.args.many s in
    stretch_there c.loop-done.chunks f s c.args.from c.args.many c.loop-done.done c.stretch_at-stretch.result
    (written_there c.args.chunks.now c.loop-done.chunks f (cells_from c.args.from c.loop-done.done s) ats _ c.loop-done.invariant.written c.requires.there) c.loop-done-test.true c.requires.inside c.stretch_at-stretch.ensures.cells

pub loop-done-preserved : goal.loop-done-preserved
loop-done-preserved c =
    let t = c.stretch_at-stretch.result in
    let f = c.args.frame.now in
    let few : c.loop-done.done + c.stretch_at-stretch.result.len ≤ c.args.many = omega (arith, c.stretch_at-stretch.ensures.few, c.loop-done-test.true) in
    record {
      few = few;
      rest = rest_more f.size c.loop-done.done t.len c.args.bytes.now c.loop-done.rest.now _ c.loop-done.invariant.rest c.split_at.ensures.back;
      written =
          written_more c.args.chunks.now c.loop-done.chunks c.write_stretch.new.chunks f c.args.shape.now c.args.from c.args.many c.loop-done.done t.len c.args.bytes.now c.loop-done.rest.now _ c.requires.inside few c.requires.bytes c.loop-done.invariant.rest c.split_at.ensures.front
          c.loop-done.invariant.written (c.write_stretch.ensures _ c.stretch_at-stretch.ensures.cells);
    }
