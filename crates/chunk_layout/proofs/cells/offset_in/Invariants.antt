use Rattle.std.proofs.Common.{◌≡◌, ◌*◌, ◌+◌, drop}
use Rattle.shapes.specs.RowMajor.{cell_count, IsInside, linear_index}
use Rattle.chunk_layout.specs.Chunks.{remainders, offset_of}
use Rattle.chunk_layout.proofs.cells.offset_in.Given as goal

abbrev pub invariant-loop-axis : goal.invariant-loop-axis
invariant-loop-axis l = record {
  total : l.total * cell_count (drop l.axis l.layout.chunk) + linear_index (drop l.axis (remainders l.at l.layout.chunk)) (drop l.axis l.layout.chunk) ≡ offset_of l.at l.layout.chunk;
  inside : IsInside (drop l.axis (remainders l.at l.layout.chunk)) (drop l.axis l.layout.chunk);
}
