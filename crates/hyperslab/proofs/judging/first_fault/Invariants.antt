use Rattle.std.proofs.Common.{◌≡◌, drop}
use Rattle.hyperslab.specs.Judged.{first_fault}
use Rattle.hyperslab.specs.Selected.{axes_of}
use Rattle.hyperslab.proofs.AxisLemmas.{axes_from}
use Rattle.hyperslab.proofs.judging.first_fault.Given as goal

abbrev pub invariant-loop-axis : goal.invariant-loop-axis
invariant-loop-axis l = first_fault l.axis (drop l.axis l.dims) (axes_from l.axis l.slab.start l.slab.stop l.slab.step) ≡ first_fault 0 l.dims (axes_of l.slab)
