use Rattle.std.proofs.Common.{◌≡◌, ℕ, List, ◌++◌, ◌<◌, length, drop}
use Rattle.shapes.specs.RowMajor.{cell_count, IsInside, linear_index}
use Rattle.shapes.proofs.row_major.coords_in.Given as goal

abbrev pub invariant-loop-n : goal.invariant-loop-n
invariant-loop-n l = record {
  step : l.step ≡ cell_count (drop l.n-index l.n-items);
  rest : l.rest < l.step;
  short : length l.coords ≡ l.n-index;
  goes_on : (ys : List ℕ) → IsInside ys (drop l.n-index l.n-items) → linear_index ys (drop l.n-index l.n-items) ≡ l.rest → IsInside (l.coords ++ ys) l.n-items × (linear_index (l.coords ++ ys) l.n-items ≡ l.number);
}
