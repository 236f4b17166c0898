-- What copies between the bytes of a selection and those of a box do.
use Rattle.std.specs.Prelude.{◌≡◌, ℕ, ◌+◌, ◌<◌, ◌^◌, List, length}
use Rattle.std.specs.List.{AllZip}
use Rattle.shapes.specs.RowMajor.{cell_count}
use Rattle.hyperslab.specs.Selected.{IsSlab, cell_at, extents}
use Rattle.hyperslab.specs.declared.Slab.{Slab}
use Rattle.chunk_layout.specs.Chunks.{IsChunk}
use Rattle.hdf_values.specs.Nested.{piece_at}
use Rattle.hyperslab.specs.Runs.{InBox, offset_from}

-- a selection, and a box of as many axes
pub record IsBox (s : Slab) (origin dims : List ℕ) : Type 0 where
  pub slab : IsSlab s
  pub chunk : IsChunk dims
  pub origin_rank : length origin ≡ length s.start
  pub chunk_rank : length dims ≡ length s.start
  pub ends : AllZip (λ o n. o + n < 2 ^ 64) origin dims

-- the selected cell number `p` lies in the box
abbrev pub LiesThere : Slab → List ℕ → List ℕ → ℕ → Type 0
LiesThere s origin dims p = (p < cell_count (extents s)) × InBox (cell_at s p) origin dims

-- its offset there
abbrev pub offset : Slab → List ℕ → List ℕ → ℕ → ℕ
offset s origin dims p = offset_from (cell_at s p) origin dims

-- each selected cell in the box has the box's element, and each other what it had
pub record AreRead (s : Slab) (origin dims : List ℕ) (size : ℕ) (buffer old out : List ℕ) : Type 0 where
  pub here : (p : ℕ) → LiesThere s origin dims p → piece_at size p out ≡ piece_at size (offset s origin dims p) buffer
  pub others : (p : ℕ) → (LiesThere s origin dims p → ⊥) → piece_at size p out ≡ piece_at size p old

-- each selected cell in the box has this element, and each other what it had
pub record AreFilled (s : Slab) (origin dims : List ℕ) (size : ℕ) (blank old out : List ℕ) : Type 0 where
  pub here : (p : ℕ) → LiesThere s origin dims p → piece_at size p out ≡ blank
  pub others : (p : ℕ) → (LiesThere s origin dims p → ⊥) → piece_at size p out ≡ piece_at size p old

-- each selected cell in the box has the selection's element, and each other cell of the box what it had
pub record AreWritten (s : Slab) (origin dims : List ℕ) (size : ℕ) (bytes old buffer : List ℕ) : Type 0 where
  pub here : (p : ℕ) → LiesThere s origin dims p → piece_at size (offset s origin dims p) buffer ≡ piece_at size p bytes
  pub others : (o : ℕ) → ((p : ℕ) → LiesThere s origin dims p → o ≡ offset s origin dims p → ⊥) → piece_at size o buffer ≡ piece_at size o old
