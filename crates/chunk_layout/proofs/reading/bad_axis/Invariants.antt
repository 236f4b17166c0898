use Rattle.std.proofs.Common.{◌≡◌, drop}
use Rattle.chunk_layout.specs.Asked.{first_bad}
use Rattle.chunk_layout.proofs.reading.bad_axis.Given as goal

abbrev pub invariant-loop-axis : goal.invariant-loop-axis
invariant-loop-axis l = first_bad l.axis (drop l.axis l.chunk) ≡ first_bad 0 l.chunk
