use Rattle.std.proofs.Common.{◌≡◌, ◌++◌, length, drop}
use Rattle.chunk_layout.specs.Chunks.{quotients}
use Rattle.chunk_layout.proofs.cells.chunk_of.Given as goal

abbrev pub invariant-loop-axis : goal.invariant-loop-axis
invariant-loop-axis l = record {
  whole : l.chunk ++ quotients (drop l.axis l.at) (drop l.axis l.layout.chunk) ≡ quotients l.at l.layout.chunk;
  short : length l.chunk ≡ l.axis;
}
