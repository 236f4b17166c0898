use Rattle.std.proofs.Common.{◌≡◌, ◌≤◌, ◌*◌, ◌++◌, drop, map, length}
use Rattle.shapes.specs.RowMajor.{cell_count, room_of}
use Rattle.hyperslab.specs.declared.TheConstants.{MAX_SELECTED}
use Rattle.hyperslab.proofs.BoxLemmas.{extents_to}
use Rattle.chunk_store.specs.Touched.{slots_of, layers, touched_count}
use Rattle.chunk_store.proofs.touched.Touched.new.Given as goal

abbrev pub invariant-loop-axis : goal.invariant-loop-axis
invariant-loop-axis l = record {
  slots_so : l.slots ++ map slots_of (drop l.axis (layers l.slab l.chunk)) ≡ map slots_of (layers l.slab l.chunk);
  long : length l.slots ≡ l.axis;
  many_so : l.many * cell_count (map slots_of (drop l.axis (layers l.slab l.chunk))) ≡ touched_count l.slab l.chunk;
  room : l.many * room_of (extents_to (drop l.axis (layers l.slab l.chunk))) ≤ MAX_SELECTED;
}
