-- Which chunks may be dirty.
use Rattle.std.specs.Prelude.{◌≡◌, ℕ, ◌||◌, List, Bool, true, false, cond, Option, Some, map, option_map}
use Rattle.shapes.specs.declared.Shape.{Shape}
use Rattle.chunk_store.specs.Buffers.{ChunkMap, flag_at, has_cell}
use Rattle.chunk_store.specs.Cells.{has}
use Rattle.chunk_store.specs.Marks.{flagged}
use Rattle.chunk_store.specs.declared.buffers.Frame.{Frame}
use Rattle.chunk_store.specs.declared.buffers.Held.{Held}
use Rattle.chunk_store.specs.declared.changes.Changes.{Changes}

-- what was listed still is
pub record KeepsListed (old new : Changes) : Type 0 where
  pub all : new.all ≡ old.all
  pub more : (i : List ℕ) → has old.listed i ≡ true → has new.listed i ≡ true

-- each dirty chunk is listed, unless all may be dirty; a chunk outside the array is dirty, and then all may be
pub record AreListed (s : Shape) (f : Frame) (m : ChunkMap) (c : Changes) : Type 0 where
  pub dirty : (i : List ℕ) → flagged (flag_at m i) ≡ true → (c.all || has c.listed i) ≡ true
  pub outside : (i : List ℕ) → has m i ≡ true → has_cell f.layout.chunk s i ≡ false → (c.all ≡ true) × (flag_at m i ≡ Some true)

-- the keys of entries, each with a flag
abbrev pub marked : {X : Type 0} → (List ℕ × X → Bool) → List (List ℕ × X) → List (List ℕ × Bool)
marked flag es = map (λ e. (e.0, flag e)) es

-- a listed chunk is dirty
abbrev pub is_dirty_in : {X : Type 0} → ChunkMap → List ℕ × X → Bool
is_dirty_in m e = flagged (flag_at m e.0)

-- the chunk taken as clean, where it is listed
abbrev pub cleaned : Bool → Option Held → Option Held
cleaned listed o = cond listed (option_map {T = Held} (λ h. record { bytes = h.bytes; dirty = false }) o) o
