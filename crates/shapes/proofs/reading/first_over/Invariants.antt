use Rattle.std.proofs.Common.{◌≡◌, drop}
use Rattle.shapes.specs.Shapes.{first_over}
use Rattle.shapes.proofs.reading.first_over.Given as goal

abbrev pub invariant-loop-axis : goal.invariant-loop-axis
invariant-loop-axis l = first_over l.axis (drop l.axis l.dims) (drop l.axis l.limits) ≡ first_over 0 l.dims l.limits
