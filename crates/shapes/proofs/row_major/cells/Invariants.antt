use Rattle.std.proofs.Common.{◌≡◌, ◌*◌, ◌≤◌, drop}
use Rattle.shapes.specs.RowMajor.{cell_count, room_of}
use Rattle.shapes.proofs.row_major.cells.Given as goal

abbrev pub invariant-loop-n : goal.invariant-loop-n
invariant-loop-n l = record {
  product : l.total * cell_count (drop l.n-index l.dims) ≡ cell_count l.dims;
  room : l.total * room_of (drop l.n-index l.dims) ≤ room_of l.dims;
}
