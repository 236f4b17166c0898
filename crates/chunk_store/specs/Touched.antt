-- The chunks in which a selection has cells, by their numbers.
use Rattle.std.specs.Prelude.{◌≡◌, ℕ, ◌+◌, ◌*◌, ◌-◌, ◌/◌, ◌<◌, List, [], ◌∷◌, length, map, nat_eq, nat_le, if◌then◌else◌}
use Rattle.shapes.specs.RowMajor.{cell_count, digits_by}
use Rattle.hyperslab.specs.Selected.{IsSlab, axes_of, cell_at, extent, extents}
use Rattle.hyperslab.specs.Numbered.{Side, sides}
use Rattle.hyperslab.specs.declared.Slab.{Slab}
use Rattle.chunk_layout.specs.Chunks.{IsChunk, quotients}
use Rattle.chunk_store.specs.declared.touched.Touched.{Touched}

-- ---- one axis: each chunk that has a selected number has a slot

-- with steps no wider than a chunk, these are all from the first number's to the last's, and else one for each number
abbrev pub slots_of : Side → ℕ
slots_of s = if nat_eq (extent s.axis) 0 then 0 else (if nat_le s.axis.by s.wide then (s.axis.lo + (extent s.axis - 1) * s.axis.by) / s.wide - s.axis.lo / s.wide + 1 else extent s.axis)

-- the chunk at a slot
abbrev pub chunk_at : Side → ℕ → ℕ
chunk_at s t = if nat_le s.axis.by s.wide then s.axis.lo / s.wide + t else (s.axis.lo + t * s.axis.by) / s.wide

abbrev pub side_at : ℕ → ℕ → ℕ → ℕ → Side
side_at a b c n = record { axis = record { lo = a; hi = b; by = c }; low = n; wide = n }

-- ---- all axes

abbrev pub chunks_to : List Side → List ℕ → List ℕ
chunks_to (s ∷ ss) (t ∷ ts) = chunk_at s t ∷ chunks_to ss ts
chunks_to ss ts = []

abbrev pub layers : Slab → List ℕ → List Side
layers s chunk = sides (axes_of s) chunk chunk

-- how many chunks there are, and the index of each
abbrev pub touched_count : Slab → List ℕ → ℕ
touched_count s chunk = cell_count (map slots_of (layers s chunk))

abbrev pub touched_at : Slab → List ℕ → ℕ → List ℕ
touched_at s chunk b = chunks_to (layers s chunk) (digits_by (map slots_of (layers s chunk)) b)

-- each selected cell lies in one of them, and each of them has a selected cell
pub record AreTouched (s : Slab) (chunk : List ℕ) : Type 0 where
  pub each : (p : ℕ) → p < cell_count (extents s) → (b : ℕ) × (b < touched_count s chunk) × (touched_at s chunk b ≡ quotients (cell_at s p) chunk)
  pub some : (b : ℕ) → b < touched_count s chunk → (p : ℕ) × (p < cell_count (extents s)) × (quotients (cell_at s p) chunk ≡ touched_at s chunk b)

-- what is computed of a selection and the dims of a chunk
pub record AreSlots (t : Touched) : Type 0 where
  pub slab : IsSlab t.slab
  pub chunk : IsChunk t.chunk
  pub rank : length t.chunk ≡ length t.slab.start
  pub slots : t.slots ≡ map slots_of (layers t.slab t.chunk)
  pub many : t.many ≡ touched_count t.slab t.chunk
