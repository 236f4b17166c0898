use Rattle.std.proofs.Common.{◌≡◌, ◌++◌, length, drop}
use Rattle.chunk_layout.specs.Defaults.{at_least_one}
use Rattle.chunk_layout.proofs.defaults.without_zeros.Given as goal

abbrev pub invariant-loop-axis : goal.invariant-loop-axis
invariant-loop-axis l = record {
  whole : l.chunk ++ at_least_one (drop l.axis l.dims) ≡ at_least_one l.dims;
  short : length l.chunk ≡ l.axis;
}
