use Rattle.std.proofs.Common.{◌≡◌, ◌++◌, drop, length}
use Rattle.chunk_layout.specs.Chunks.{corner}
use Rattle.chunk_store.proofs.slabs.first_cell.Given as goal

abbrev pub invariant-loop-axis : goal.invariant-loop-axis
invariant-loop-axis l = record {
  at_so : l.at ++ corner (drop l.axis l.index) (drop l.axis l.chunk) ≡ corner l.index l.chunk;
  long : length l.at ≡ l.axis;
}
