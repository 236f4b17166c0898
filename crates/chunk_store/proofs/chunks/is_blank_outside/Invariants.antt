use Rattle.std.proofs.Common.{◌≡◌, ℕ, ◌-◌, ◌<◌, ◌≤◌, [], false, length, get_or}
use Rattle.hdf_values.specs.Nested.{piece_at}
use Rattle.shapes.specs.Shapes.{lies_in}
use Rattle.chunk_layout.specs.Chunks.{chunk_cells}
use Rattle.chunk_store.proofs.chunks.is_blank_outside.Given as goal

abbrev pub invariant-loop-done : goal.invariant-loop-done
invariant-loop-done l = record {
  few : l.done ≤ l.many;
  before : (j : ℕ) → j < l.done → lies_in (get_or (chunk_cells l.index l.layout.chunk) j []) l.shape ≡ false → piece_at (length l.blank) j l.bytes ≡ l.blank;
}

abbrev pub decreases-loop-done : goal.decreases-loop-done
decreases-loop-done l = l.many - l.done
