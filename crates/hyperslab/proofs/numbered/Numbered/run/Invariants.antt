use Rattle.std.proofs.Common.{◌≡◌, ◌*◌, ◌+◌, ◌<◌, drop}
use Rattle.shapes.specs.RowMajor.{cell_count}
use Rattle.hyperslab.specs.Numbered.{sides_of, index_to, offset_to}
use Rattle.hyperslab.proofs.BoxLemmas.{counts, extents_to, wides}
use Rattle.hyperslab.proofs.numbered.Numbered.run.Given as goal

abbrev pub invariant-loop-axis : goal.invariant-loop-axis
invariant-loop-axis l = record {
  step : l.step ≡ cell_count (counts (drop l.axis (sides_of l.self)));
  rest : l.rest < l.step;
  place : l.place * cell_count (extents_to (drop l.axis (sides_of l.self))) + index_to (drop l.axis (sides_of l.self)) l.rest ≡ index_to (sides_of l.self) (l.number * l.self.len);
  offset : l.offset * cell_count (wides (drop l.axis (sides_of l.self))) + offset_to (drop l.axis (sides_of l.self)) l.rest ≡ offset_to (sides_of l.self) (l.number * l.self.len);
}
