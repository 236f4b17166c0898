-- Which chunks requests mark as changed.
use Rattle.std.specs.Prelude.{◌≡◌, ◌⊎◌, ◌<◌, ◌≤◌, ◌*◌, ℕ, Bool, true, not, List, [], Result, Ok, Err}
use Rattle.hdf_types.specs.Reading.{size_of}
use Rattle.shapes.specs.RowMajor.{cell_count}
use Rattle.shapes.specs.declared.Shape.{Shape}
use Rattle.shapes.specs.Shapes.{dims_of}
use Rattle.chunk_store.specs.Additions.{Adds}
use Rattle.chunk_store.specs.Grids.{Grid}
use Rattle.chunk_store.specs.Marks.{Stored, is_dirty, keeps, touches}
use Rattle.object_ops.specs.declared.ops.Part.{Part}
use Rattle.object_ops.specs.declared.refusals.Refusal.{Refusal}
use Rattle.object_ops.specs.declared.replies.Reply.{Reply}
use Rattle.object_acts.specs.Arrays.Faults.{most_new_bytes}
use Rattle.object_acts.specs.Arrays.Writes.{Region, region_of}
use Rattle.object_ops.specs.Replies.{was_done}

-- the request was done: it wasn't refused, and memory didn't run out
abbrev pub IsDone : {E : Type 0} → Result Reply E → Type 0
IsDone (Ok reply) = was_done reply ≡ true
IsDone (Err e) = ⊥

abbrev pub cells_in : Result Region Refusal → List (List ℕ)
cells_in (Err refusal) = []
cells_in (Ok region) = region.cells

-- the cells that a part selects: none where it is none of the array
abbrev pub selected : Part → Shape → List (List ℕ)
selected p shape = cells_in (region_of p shape)

-- a selected cell lies in the chunk
abbrev pub is_written : Part → Grid → List ℕ → Bool
is_written p g i = touches g.chunk (selected p g.shape) i

-- the chunk loses a cell to these dims, or has none left
abbrev pub is_truncated : List ℕ → Grid → List ℕ → Bool
is_truncated dims g i = not (keeps i g.chunk (dims_of g.shape) dims)

-- each chunk that is marked as changed afterwards was so before, or is one of these
abbrev pub MarksAlone : (List ℕ → Type 0) → Stored → Stored → Type 0
MarksAlone P old new = (i : List ℕ) → is_dirty new i ≡ true → (is_dirty old i ≡ true) ⊎ P i

-- how many bytes so many chunks of an array have
abbrev pub chunk_bytes : Grid → ℕ → ℕ
chunk_bytes g many = many * (cell_count g.chunk * size_of g.kind)

-- the chunks that a write of these cells adds have few enough bytes
pub record AddsFew (s : Stored) (ats : List (List ℕ)) : Type 0 where
  pub many : ℕ
  pub adds : Adds s ats many
  pub few : chunk_bytes s.grid many ≤ most_new_bytes

-- they have more than they may
pub record AddsMany (s : Stored) (ats : List (List ℕ)) : Type 0 where
  pub many : ℕ
  pub adds : Adds s ats many
  pub above : most_new_bytes < chunk_bytes s.grid many
