use Rattle.std.proofs.Common.{◌≡◌, ◌<◌, ◌++◌, length, drop}
use Rattle.shapes.specs.RowMajor.{cell_count}
use Rattle.chunk_layout.specs.Chunks.{cell_at}
use Rattle.chunk_layout.proofs.cells.stepped.Given as goal

abbrev pub invariant-loop-axis : goal.invariant-loop-axis
invariant-loop-axis l = record {
  whole : l.coords ++ cell_at (drop l.axis l.index) l.rest (drop l.axis l.layout.chunk) ≡ cell_at l.index l.offset l.layout.chunk;
  step : l.step ≡ cell_count (drop l.axis l.layout.chunk);
  rest : l.rest < l.step;
  short : length l.coords ≡ l.axis;
}
