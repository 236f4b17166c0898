-- What a call marks for the next cut.
use Rattle.std.specs.Prelude.{◌≡◌, ◌≢◌, ◌⊎◌, ℕ, true, false, List, Option, Some, None}
use Rattle.object_ids.specs.IdValues.{Id}
use Rattle.object_ops.specs.declared.ops.Op.{Op}
use Rattle.object_acts.specs.declared.objects.Object.{Object}
use Rattle.object_acts.specs.declared.objects.Body.{Body}
use Rattle.object_acts.specs.Marked.{is_changed_by}
use Rattle.object_records.specs.Keys.Keys.{chunk_key, object_key}
use Rattle.chunk_owner.specs.declared.slots.slot.Mark.TheVariants.{Dropped}
use Rattle.chunk_owner.specs.declared.slots.slot.Slot.{Slot}
use Rattle.chunk_owner.specs.Slots.Changed.{writes_cells}
use Rattle.chunk_owner.specs.Slots.Slots.{IsMarked, IsMarkedIn, Slots, is_index}

-- each key that is marked afterwards was marked before, or is one of these
abbrev pub AddsMarks : (List ℕ → Type 0) → Slots → Slots → Type 0
AddsMarks P old new = (key : List ℕ) → IsMarked new key → IsMarked old key ⊎ P key

-- ---- what an operation marks

abbrev pub IsChunkOutdated : Id → Op → Body → List ℕ → Type 0
IsChunkOutdated id op b key = (i : List ℕ) × (key ≡ chunk_key id i) × (is_index i ≡ true) × (is_changed_by op b i ≡ true)

-- the key is that of an object of which more changes than cells, or of a chunk that the operation writes or truncates
abbrev pub IsOutdated : Id → Op → Body → List ℕ → Type 0
IsOutdated id op b key = ((key ≡ object_key id) × (writes_cells op ≡ false)) ⊎ IsChunkOutdated id op b key

-- the same of what stands at an id
abbrev pub IsOutdatedAt : Id → Op → Option Object → List ℕ → Type 0
IsOutdatedAt id op None key = ⊥
IsOutdatedAt id op (Some o) key = IsOutdated id op o.body key

-- ---- what a removal marks

-- the key is that of an object that stands, or of a chunk of it of which anything is known
abbrev pub IsToDrop : Id → Option Slot → List ℕ → Type 0
IsToDrop id None key = ⊥
IsToDrop id (Some s) key = (s.mark ≢ Dropped) × IsMarkedIn id Dropped s.object.body key

-- the same of any object of the domain of a number
abbrev pub IsToForget : ℕ → (Id → Option Slot) → List ℕ → Type 0
IsToForget number at key = (id : Id) × (id.domain ≡ number) × IsToDrop id (at id) key
