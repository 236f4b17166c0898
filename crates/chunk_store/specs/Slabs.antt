-- What reads and writes of the selected cells of one chunk do.
use Rattle.std.specs.Prelude.{◌≡◌, ◌⊎◌, ℕ, ◌<◌, List, length, true, Some}
use Rattle.std.specs.BTreeMap.{BTreeMap}
use Rattle.hdf_values.specs.Nested.{piece_at}
use Rattle.shapes.specs.RowMajor.{cell_count}
use Rattle.hyperslab.specs.Selected.{cell_at, extents}
use Rattle.hyperslab.specs.declared.Slab.{Slab}
use Rattle.chunk_layout.specs.Chunks.{quotients}
use Rattle.chunk_store.specs.Buffers.{AreFull, bytes_at, flag_at}
use Rattle.chunk_store.specs.Cells.{has, put}
use Rattle.chunk_store.specs.declared.buffers.Frame.{Frame}
use Rattle.chunk_store.specs.declared.buffers.Held.{Held}

-- the selected cell number `p` lies in the chunk
abbrev pub IsThere : Frame → Slab → List ℕ → ℕ → Type 0
IsThere f s i p = (p < cell_count (extents s)) × (quotients (cell_at s p) f.layout.chunk ≡ i)

-- each selected cell has its element among these, or that of a cell that was never written
abbrev pub AreReady : BTreeMap (List ℕ) Held → Frame → Slab → List ℕ → Type 0
AreReady m f s out = (p : ℕ) → p < cell_count (extents s) → (piece_at f.size p out ≡ bytes_at m f (cell_at s p)) ⊎ (piece_at f.size p out ≡ f.blank.items)

-- the selected cells of the chunk stand among the elements, of which all others are what they were
pub record IsChunkRead (m : BTreeMap (List ℕ) Held) (f : Frame) (s : Slab) (i old out : List ℕ) : Type 0 where
  pub here : (p : ℕ) → IsThere f s i p → piece_at f.size p out ≡ bytes_at m f (cell_at s p)
  pub others : (p : ℕ) → (IsThere f s i p → ⊥) → piece_at f.size p out ≡ piece_at f.size p old

-- the selected cells of the chunk have the elements, all other cells what they had, and the chunk is dirty
pub record IsChunkWritten (m n : BTreeMap (List ℕ) Held) (f : Frame) (s : Slab) (i bytes : List ℕ) : Type 0 where
  pub here : (p : ℕ) → IsThere f s i p → bytes_at n f (cell_at s p) ≡ piece_at f.size p bytes
  pub others : (q : List ℕ) → length q ≡ length f.layout.chunk → ((p : ℕ) → IsThere f s i p → cell_at s p ≡ q → ⊥) → bytes_at n f q ≡ bytes_at m f q
  pub full : AreFull n f
  pub keys : (j : List ℕ) → has n j ≡ has m j
  pub flags : (j : List ℕ) → flag_at n j ≡ put (flag_at m) i (Some true) j
