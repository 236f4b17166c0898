-- Which chunks operations mark as changed.
use Rattle.std.specs.Prelude.{◌≡◌, ◌⊎◌, ℕ, Bool, true, false, List}
use Rattle.chunk_store.specs.Grids.{Grid}
use Rattle.chunk_store.specs.Marks.{Stored, is_dirty}
use Rattle.object_ops.specs.declared.ops.Op.{Op}
use Rattle.object_ops.specs.declared.ops.Op.TheVariants.{PutShape, PutValue}
use Rattle.object_acts.specs.Arrays.Marked.{AddsFew, AddsMany, is_truncated, is_written, selected}
use Rattle.object_acts.specs.declared.objects.Body.{Body}
use Rattle.object_acts.specs.declared.objects.Body.TheVariants.{Group, Dataset, Datatype}

-- only an array has chunks
abbrev pub in_array : (Grid → Bool) → Body → Bool
in_array f (Group links) = false
in_array f (Dataset array) = f array.grid
in_array f (Datatype type) = false

-- the operation writes to the chunk, or truncates it
abbrev pub is_changed_by : Op → Body → List ℕ → Bool
is_changed_by (PutValue id part value) b i = in_array (λ g. is_written part g i) b
is_changed_by (PutShape id dims) b i = in_array (λ g. is_truncated dims g i) b
is_changed_by op b i = false

-- the chunk is marked as changed
abbrev pub is_dirty_in : Body → List ℕ → Bool
is_dirty_in (Group links) i = false
is_dirty_in (Dataset array) i = is_dirty array i
is_dirty_in (Datatype type) i = false

-- each chunk that is marked as changed afterwards was so before, or is one of these
abbrev pub MarksAloneIn : (List ℕ → Type 0) → Body → Body → Type 0
MarksAloneIn P old new = (i : List ℕ) → is_dirty_in new i ≡ true → (is_dirty_in old i ≡ true) ⊎ P i

-- ---- how much a write adds

-- it is an array, and so is this true of it
abbrev pub IsArrayAnd : (Stored → Type 0) → Body → Type 0
IsArrayAnd P (Group links) = ⊥
IsArrayAnd P (Dataset array) = P array
IsArrayAnd P (Datatype type) = ⊥

-- a write adds chunks of few enough bytes to the array; no other operation adds any
abbrev pub AddsFewTo : Op → Body → Type 0
AddsFewTo (PutValue id part value) b = IsArrayAnd (λ s. AddsFew s (selected part s.grid.shape)) b
AddsFewTo op b = Unit {0}

-- a write would add chunks of more bytes to the array than it may
abbrev pub AddsManyTo : Op → Body → Type 0
AddsManyTo (PutValue id part value) b = IsArrayAnd (λ s. AddsMany s (selected part s.grid.shape)) b
AddsManyTo op b = ⊥
