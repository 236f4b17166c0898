use Rattle.std.proofs.Common.{◌≡◌, ◌++◌, map, length, drop}
use Rattle.shapes.specs.RowMajor.{IsInside}
use Rattle.hyperslab.specs.Selected.{extent, AreAxes, axes_of, point}
use Rattle.hyperslab.proofs.AxisLemmas.{axes_from}
use Rattle.hyperslab.proofs.selected.stepped.Given as goal

abbrev pub invariant-loop-axis : goal.invariant-loop-axis
invariant-loop-axis l = record {
  found : l.coords ++ point (drop l.axis l.at) (axes_from l.axis l.slab.start l.slab.stop l.slab.step) ≡ point l.at (axes_of l.slab);
  many : length l.coords ≡ l.axis;
  good : AreAxes (axes_from l.axis l.slab.start l.slab.stop l.slab.step);
  inside : IsInside (drop l.axis l.at) (map extent (axes_from l.axis l.slab.start l.slab.stop l.slab.step));
}
