use Rattle.std.proofs.Common.{◌≡◌, ◌++◌, map, length}
use Rattle.hyperslab.specs.Selected.{extent, extents, AreAxes}
use Rattle.hyperslab.proofs.AxisLemmas.{axes_from}
use Rattle.hyperslab.proofs.selected.extents_of.Given as goal

abbrev pub invariant-loop-axis : goal.invariant-loop-axis
invariant-loop-axis l = record {
  found : l.found ++ map extent (axes_from l.axis l.slab.start l.slab.stop l.slab.step) ≡ extents l.slab;
  many : length l.found ≡ l.axis;
  good : AreAxes (axes_from l.axis l.slab.start l.slab.stop l.slab.step);
}
