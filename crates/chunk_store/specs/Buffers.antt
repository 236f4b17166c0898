-- The bytes of cells in the buffers of chunks.
use Rattle.std.specs.Prelude.{◌≡◌, ℕ, ◌*◌, ◌<◌, ◌≤◌, ◌^◌, ◌&&◌, ◌⊎◌, nat_eq, List, [], Bool, true, false, cond, Option, Some, None, length, map, option_map, slice_index_or}
use Rattle.std.specs.List.{list_any}
use Rattle.std.specs.Option.{option_map_or}
use Rattle.std.specs.Str.{bytes_eq}
use Rattle.std.specs.BTreeMap.{BTreeMap}
use Rattle.hdf_values.specs.Nested.{piece_at}
use Rattle.shapes.specs.RowMajor.{cell_count}
use Rattle.shapes.specs.declared.Shape.{Shape}
use Rattle.shapes.specs.Shapes.{lies_in}
use Rattle.chunk_layout.specs.Chunks.{IsChunk, corner, quotients, offset_of}
use Rattle.chunk_store.specs.Cells.{find_in, has}
use Rattle.chunk_store.specs.Grids.{written}
use Rattle.chunk_store.specs.Marks.{touches}
use Rattle.chunk_store.specs.declared.buffers.Frame.{Frame}
use Rattle.chunk_store.specs.declared.buffers.Held.{Held}

-- the chunks that are held
abbrev pub ChunkMap : Type 0
ChunkMap = BTreeMap (List ℕ) Held

-- the bytes of a cell, or the blank where its chunk is not held
abbrev pub bytes_at : BTreeMap (List ℕ) Held → Frame → List ℕ → List ℕ
bytes_at m f at = option_map_or (λ h. piece_at f.size (offset_of at f.layout.chunk) h.bytes.items) (find_in m (quotients at f.layout.chunk)) f.blank.items

-- what is known of a chunk: nothing, or whether it is dirty
abbrev pub flag_at : BTreeMap (List ℕ) Held → List ℕ → Option Bool
flag_at m i = option_map (λ h. h.dirty) (find_in m i)

-- the flags of the chunks that are held
abbrev pub flags_of : List (List ℕ × Held) → List (List ℕ × Bool)
flags_of es = map (λ e. (e.0, e.1.dirty)) es

-- how many bytes a chunk has
abbrev pub chunk_bytes : Frame → ℕ
chunk_bytes f = cell_count f.layout.chunk * f.size

abbrev pub IsFull : ℕ → Option Held → Type 0
IsFull bytes None = Unit {0}
IsFull bytes (Some h) = length h.bytes.items ≡ bytes

-- each chunk that is held has all its bytes
abbrev pub AreFull : BTreeMap (List ℕ) Held → Frame → Type 0
AreFull m f = (i : List ℕ) → IsFull (chunk_bytes f) (find_in m i)

-- what is true of every frame
pub record IsFrame (f : Frame) : Type 0 where
  pub chunk : IsChunk f.layout.chunk
  pub some : 1 ≤ f.size
  pub few : f.size ≤ 2 ^ 32
  pub blank : length f.blank.items ≡ f.size

-- the map has the chunks of these cells
abbrev pub AreThere : {X : Type 0} → BTreeMap (List ℕ) X → Frame → List (List ℕ) → Type 0
AreThere m f ats = (k : ℕ) → k < length ats → has m (quotients (slice_index_or ats k []) f.layout.chunk) ≡ true

-- of a chunk the same is known as before, or it is one of those, nothing was known of it, and now it is known as clean
abbrev pub IsNoted : Bool → Option Bool → Option Bool → Type 0
IsNoted touched o p = (p ≡ o) ⊎ ((o ≡ None) × (touched ≡ true) × (p ≡ Some false))

-- chunks of these cells may have come, clean and with blanks alone
pub record IsGrown (m n : BTreeMap (List ℕ) Held) (f : Frame) (ats : List (List ℕ)) : Type 0 where
  pub same : (q : List ℕ) → length q ≡ length f.layout.chunk → bytes_at n f q ≡ bytes_at m f q
  pub full : AreFull n f
  pub noted : (i : List ℕ) → IsNoted (touches f.layout.chunk ats i) (flag_at m i) (flag_at n i)

-- these cells have the elements of the bytes in turn, and their chunks are dirty
pub record IsWritten (m n : BTreeMap (List ℕ) Held) (f : Frame) (ats : List (List ℕ)) (bytes : List ℕ) : Type 0 where
  pub cells : (q : List ℕ) → length q ≡ length f.layout.chunk → bytes_at n f q ≡ written (bytes_at m f) f.size ats bytes q
  pub full : AreFull n f
  pub flags : (i : List ℕ) → flag_at n i ≡ cond (touches f.layout.chunk ats i) (Some true) (flag_at m i)

-- what is held, but for these chunks
abbrev pub held_but : List (List ℕ) → ChunkMap → List ℕ → Option Held
held_but added m i = cond (list_any (bytes_eq i) added) None (find_in m i)

-- without the chunks that were added it is what it was
abbrev pub IsUndoneBy : List (List ℕ) → ChunkMap → ChunkMap → Type 0
IsUndoneBy added old new = (i : List ℕ) → held_but added new i ≡ find_in old i

-- ---- chunks that are held, one by one

-- the chunk has a cell of the shape
abbrev pub has_cell : List ℕ → Shape → List ℕ → Bool
has_cell chunk s i = nat_eq (length i) (length chunk) && lies_in (corner i chunk) s

-- the chunk taken as clean, or none where it is dirty and has no cell
abbrev pub when_cleared : Bool → Option Held → Option Held
when_cleared inside None = None
when_cleared inside (Some h) = cond (cond h.dirty inside true) (Some (record { bytes = h.bytes; dirty = false })) None
