use Rattle.std.proofs.Common.{◌≡◌, ◌≤◌, ◌*◌, ◌++◌, drop, map, length}
use Rattle.shapes.specs.RowMajor.{cell_count, room_of}
use Rattle.hyperslab.specs.Selected.{axes_of}
use Rattle.hyperslab.specs.declared.TheConstants.{MAX_SELECTED}
use Rattle.hyperslab.specs.Numbered.{sides, first_of, count_of}
use Rattle.hyperslab.proofs.BoxLemmas.{counts, extents_to}
use Rattle.hyperslab.proofs.numbered.Numbered.new.Given as goal

abbrev pub invariant-loop-axis : goal.invariant-loop-axis
invariant-loop-axis l = record {
  firsts_so : l.firsts ++ map first_of (drop l.axis (sides (axes_of l.slab) l.origin l.chunk)) ≡ map first_of (sides (axes_of l.slab) l.origin l.chunk);
  counts_so : l.counts ++ map count_of (drop l.axis (sides (axes_of l.slab) l.origin l.chunk)) ≡ map count_of (sides (axes_of l.slab) l.origin l.chunk);
  long_firsts : length l.firsts ≡ l.axis;
  long_counts : length l.counts ≡ l.axis;
  cells_so : l.cells * cell_count (counts (drop l.axis (sides (axes_of l.slab) l.origin l.chunk))) ≡ cell_count (counts (sides (axes_of l.slab) l.origin l.chunk));
  room : l.cells * room_of (extents_to (drop l.axis (sides (axes_of l.slab) l.origin l.chunk))) ≤ MAX_SELECTED;
}
