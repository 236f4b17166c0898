-- What other dims leave of a chunk that is held.
use Rattle.std.specs.Prelude.{◌≡◌, ℕ, ◌<◌, List, true, false, cond, length}
use Rattle.hdf_values.specs.Nested.{piece_at}
use Rattle.shapes.specs.declared.Shape.{Shape}
use Rattle.shapes.specs.RowMajor.{cell_count}
use Rattle.shapes.specs.Shapes.{lies_in, dims_of}
use Rattle.chunk_layout.specs.Chunks.{cell_at}
use Rattle.chunk_store.specs.Buffers.{chunk_bytes}
use Rattle.chunk_store.specs.Marks.{keeps}
use Rattle.chunk_store.specs.declared.buffers.Frame.{Frame}
use Rattle.chunk_store.specs.declared.buffers.Held.{Held}

-- of the cells of a chunk, those outside the shape have the blank, and all others what they had
abbrev pub AreTruncated : Frame → Shape → List ℕ → List ℕ → List ℕ → Type 0
AreTruncated f shape i old new = (k : ℕ) → k < cell_count f.layout.chunk → piece_at f.size k new ≡ cond (lies_in (cell_at i k f.layout.chunk) shape) (piece_at f.size k old) f.blank.items

-- a chunk that the shape's dims keep is as it was, and any other is dirty
pub record IsTruncated (f : Frame) (olds : List ℕ) (shape : Shape) (i : List ℕ) (h w : Held) : Type 0 where
  pub full : length w.bytes.items ≡ chunk_bytes f
  pub dirty : w.dirty ≡ cond (keeps i f.layout.chunk olds (dims_of shape)) h.dirty true
  pub kept : keeps i f.layout.chunk olds (dims_of shape) ≡ true → w.bytes.items ≡ h.bytes.items
  pub truncated : keeps i f.layout.chunk olds (dims_of shape) ≡ false → AreTruncated f shape i h.bytes.items w.bytes.items
