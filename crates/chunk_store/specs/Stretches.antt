-- Cells of one chunk, of which each lies behind the one before.
use Rattle.std.specs.Prelude.{◌≡◌, ℕ, ◌+◌, ◌-◌, ◌%◌, ◌<◌, ◌≤◌, min, List, [], ◌∷◌, length, slice_index_or}
use Rattle.chunk_layout.specs.Chunks.{quotients, offset_of}
use Rattle.chunk_store.specs.declared.stretches.Stretch.{Stretch}

-- the cell has this number in the stretch
pub record IsNumber (chunk : List ℕ) (s : Stretch) (j : ℕ) (at : List ℕ) : Type 0 where
  pub rank : length at ≡ length chunk
  pub index : quotients at chunk ≡ s.index
  pub offset : offset_of at chunk ≡ s.offset + j

-- these are the cells of the stretch, one or more
pub record IsStretch (chunk : List ℕ) (s : Stretch) (ats : List (List ℕ)) : Type 0 where
  pub some : 1 ≤ s.len
  pub many : length ats ≡ s.len
  pub each : (j : ℕ) → j < length ats → IsNumber chunk s j (slice_index_or ats j [])

-- how many cells from this one on stay in one row of a grid of these dims and of a chunk
abbrev pub row_left : List ℕ → List ℕ → List ℕ → ℕ
row_left (x ∷ []) (d ∷ ds) (n ∷ ns) = min (d - x) (n - x % n)
row_left (x ∷ y ∷ ys) (d ∷ ds) (n ∷ ns) = row_left (y ∷ ys) ds ns
row_left at dims chunk = 1
