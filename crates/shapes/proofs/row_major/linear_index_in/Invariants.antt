use Rattle.std.proofs.Common.{◌≡◌, ◌*◌, ◌+◌, drop}
use Rattle.shapes.specs.RowMajor.{cell_count, IsInside, linear_index}
use Rattle.shapes.proofs.row_major.linear_index_in.Given as goal

abbrev pub invariant-loop-axis : goal.invariant-loop-axis
invariant-loop-axis l = record {
  total : l.total * cell_count (drop l.axis l.dims) + linear_index (drop l.axis l.at) (drop l.axis l.dims) ≡ linear_index l.at l.dims;
  inside : IsInside (drop l.axis l.at) (drop l.axis l.dims);
}
