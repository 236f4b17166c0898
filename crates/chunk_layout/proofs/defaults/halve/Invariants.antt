use Rattle.std.proofs.Common.{◌≡◌, ◌++◌, length, drop, cond}
use Rattle.chunk_layout.specs.Defaults.{halve_first}
use Rattle.chunk_layout.proofs.defaults.halve.Given as goal

abbrev pub invariant-loop-axis : goal.invariant-loop-axis
invariant-loop-axis l = record {
  whole : l.next ++ cond l.found (drop l.axis l.chunk) (halve_first l.most (drop l.axis l.chunk)) ≡ halve_first l.most l.chunk;
  short : length l.next ≡ l.axis;
}
