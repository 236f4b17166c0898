use Rattle.std.proofs.Common.{◌≡◌, drop}
use Rattle.shapes.specs.RowMajor.{is_inside}
use Rattle.shapes.proofs.cells.is_below.Given as goal

abbrev pub invariant-loop-axis : goal.invariant-loop-axis
invariant-loop-axis l = is_inside (drop l.axis l.at) (drop l.axis l.dims) ≡ is_inside l.at l.dims
