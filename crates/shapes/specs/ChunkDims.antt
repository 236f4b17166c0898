-- The dims of the chunks of a grid.
use Rattle.std.specs.Prelude.{ℕ, ◌≤◌, List, All, length}
use Rattle.shapes.specs.RowMajor.{cell_count}
use Rattle.shapes.specs.declared.TheConstants.{MAX_RANK, MAX_EXTENT, MAX_CHUNK_BYTES}

-- a dim of a chunk
abbrev pub IsChunkDim : ℕ → Type 0
IsChunkDim n = (1 ≤ n) × (n ≤ MAX_EXTENT)

-- the dims of a chunk: whatever the elements, it has no more of them than bytes are allowed
pub record IsChunk (chunk : List ℕ) : Type 0 where
  pub few_axes : length chunk ≤ MAX_RANK
  pub dims : All IsChunkDim chunk
  pub cells : cell_count chunk ≤ MAX_CHUNK_BYTES
