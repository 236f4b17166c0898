-- Cells of a chunk that follow one another on its last axis.
use Rattle.std.specs.Prelude.{◌≡◌, ℕ, ◌+◌, ◌-◌, ◌%◌, ◌<◌, ◌≤◌, List, [], ◌∷◌, true, false}
use Rattle.shapes.specs.RowMajor.{cell_count}
use Rattle.shapes.specs.declared.Shape.{Shape}
use Rattle.shapes.specs.Shapes.{lies_in}
use Rattle.chunk_layout.specs.Chunks.{cell_at}
use Rattle.chunk_store.specs.declared.rows.Row.{Row}

-- of the cells from this offset on, one or more in the chunk, the first ones lie in the shape, and no other
pub record IsRow (chunk : List ℕ) (s : Shape) (i : List ℕ) (offset : ℕ) (r : Row) : Type 0 where
  pub some : 1 ≤ r.len
  pub room : offset + r.len ≤ cell_count chunk
  pub few : r.inside ≤ r.len
  pub within : (j : ℕ) → j < r.inside → lies_in (cell_at i (offset + j) chunk) s ≡ true
  pub outside : (j : ℕ) → r.inside ≤ j → j < r.len → lies_in (cell_at i (offset + j) chunk) s ≡ false

-- how many cells from this one on stay in its row of a chunk
abbrev pub left_in : List ℕ → List ℕ → ℕ
left_in (x ∷ []) (n ∷ ns) = n - x % n
left_in (x ∷ y ∷ ys) (n ∷ ns) = left_in (y ∷ ys) ns
left_in at chunk = 1

-- and in its row of a grid
abbrev pub left_below : List ℕ → List ℕ → ℕ
left_below (x ∷ []) (d ∷ ds) = d - x
left_below (x ∷ y ∷ ys) (d ∷ ds) = left_below (y ∷ ys) ds
left_below at dims = 1
