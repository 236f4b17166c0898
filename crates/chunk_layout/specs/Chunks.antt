-- A grid that is split into chunks of one size: the chunk of a cell, and its offset there.
pub use Rattle.shapes.specs.ChunkDims.{IsChunkDim, IsChunk}
use Rattle.std.specs.Prelude.{ℕ, ◌+◌, ◌*◌, ◌/◌, ◌%◌, List, [], ◌∷◌, map}
use Rattle.shapes.specs.RowMajor.{linear_index, coordinates, digits_by}

-- the chunk in which a cell lies: on each axis, how many chunks lie before it
abbrev pub quotients : List ℕ → List ℕ → List ℕ
quotients [] ns = []
quotients (x ∷ xs) [] = []
quotients (x ∷ xs) (n ∷ ns) = x / n ∷ quotients xs ns

-- the coordinates of the cell inside its chunk
abbrev pub remainders : List ℕ → List ℕ → List ℕ
remainders [] ns = []
remainders (x ∷ xs) [] = []
remainders (x ∷ xs) (n ∷ ns) = x % n ∷ remainders xs ns

-- the linear index of the cell inside its chunk (row-major)
abbrev pub offset_of : List ℕ → List ℕ → ℕ
offset_of at chunk = linear_index (remainders at chunk) chunk

-- the first cell of a chunk
abbrev pub corner : List ℕ → List ℕ → List ℕ
corner [] ns = []
corner (q ∷ qs) [] = []
corner (q ∷ qs) (n ∷ ns) = q * n ∷ corner qs ns

-- the sums on each axis
abbrev pub added : List ℕ → List ℕ → List ℕ
added [] ys = []
added (x ∷ xs) [] = []
added (x ∷ xs) (y ∷ ys) = (x + y) ∷ added xs ys

-- the cell at an offset of a chunk, whose digits are its coordinates there
abbrev pub cell_at : List ℕ → ℕ → List ℕ → List ℕ
cell_at index offset chunk = added (corner index chunk) (digits_by chunk offset)

-- the cells of a chunk in row-major order, those outside the array too
abbrev pub chunk_cells : List ℕ → List ℕ → List (List ℕ)
chunk_cells index chunk = map (λ inner. added (corner index chunk) inner) (coordinates chunk)
