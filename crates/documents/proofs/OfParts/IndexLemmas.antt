-- The cells of a shape as a list.
use Rattle.std.proofs.Common.{◌≡◌, ◌<◌, ℕ, List, length, sym, subst, ◌∙◌, arith}
use Rattle.std.proofs.lemmas.List.{take_all}
use Rattle.shapes.specs.RowMajor.{linear_index}
use Rattle.shapes.specs.Shapes.{cell_of, cells_of, count_of, dims_of}
use Rattle.shapes.specs.declared.Shape.{Shape}
use Rattle.chunk_store.specs.Listed.{IsLast}
use Rattle.chunk_store.specs.Picked.{cells_from}

-- as many cells as there are, from the first on
pub all_cells : (s : Shape) → length (cells_of s) ≡ count_of s → cells_from 0 (count_of s) s ≡ cells_of s
all_cells s counted = take_all (count_of s) (cells_of s) (omega arith)

-- a cell stands at its linear index, and not again
pub last_there : (s : Shape) (at : List ℕ) → length (cells_of s) ≡ count_of s → ((j k : ℕ) → j < count_of s → k < count_of s → cell_of s j ≡ cell_of s k → j ≡ k)
    → linear_index at (dims_of s) < count_of s → cell_of s (linear_index at (dims_of s)) ≡ at → IsLast (cells_of s) (linear_index at (dims_of s)) at
last_there s at counted once below here = (
  subst (λ (n : ℕ). linear_index at (dims_of s) < n) (sym counted) below,
  here,
  λ j later short same. not_same (linear_index at (dims_of s)) j later (once (linear_index at (dims_of s)) j below (subst (λ (n : ℕ). j < n) counted short) (here ∙ sym same)),
)
  where
    not_same : (m n : ℕ) → m < n → m ≡ n → ⊥
    not_same m n h e = omega arith
