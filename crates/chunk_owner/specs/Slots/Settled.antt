-- What stands once the records of a cut are written.
use Rattle.std.specs.Prelude.{◌≡◌, ℕ, List, Bool, true, false, Option, Some, None}
use Rattle.std.specs.FinMap.{get}
use Rattle.object_ids.specs.IdValues.{Id}
use Rattle.chunk_store.specs.Marks.{Stored, IsTracked, cleared, cut, in_grid, state}
use Rattle.object_acts.specs.declared.objects.Body.{Body}
use Rattle.object_acts.specs.declared.objects.Body.TheVariants as body
use Rattle.chunk_owner.specs.declared.slots.slot.Mark.{Mark}
use Rattle.chunk_owner.specs.declared.slots.slot.Mark.TheVariants.{Kept, Dropped}
use Rattle.chunk_owner.specs.declared.slots.slot.Slot.{Slot}
use Rattle.chunk_owner.specs.Slots.Slots.{Slots}

-- each chunk is taken as unchanged
pub record ArraySettles (old new : Stored) : Type 0 where
  pub grid : new.grid ≡ old.grid
  pub marks : (i : List ℕ) → state new i ≡ cleared (in_grid old.grid i) (state old i)
  pub tracked : (bodies : List ℕ → List ℕ) → IsTracked bodies old → IsTracked (cut bodies old) new

abbrev pub BodySettles : Body → Body → Type 0
BodySettles (body.Group links) new = new ≡ body.Group links
BodySettles (body.Dataset array) new = (settled : Stored) × (new ≡ body.Dataset settled) × ArraySettles array settled
BodySettles (body.Datatype type) new = new ≡ body.Datatype type

-- the object is kept
pub record SlotSettles (old new : Slot) : Type 0 where
  pub mark : new.mark ≡ Kept
  pub attributes : new.object.attributes ≡ old.object.attributes
  pub body : BodySettles old.object.body new.object.body

abbrev pub is_dropped : Mark → Bool
is_dropped Dropped = true
is_dropped mark = false

abbrev pub is_dropped_slot : Option Slot → Bool
is_dropped_slot None = false
is_dropped_slot (Some s) = is_dropped s.mark

abbrev pub SettlesBy : Mark → Slot → Option Slot → Type 0
SettlesBy Dropped s new = new ≡ None
SettlesBy mark s new = (settled : Slot) × (new ≡ Some settled) × SlotSettles s settled

-- what was removed is let go
abbrev pub Settles : Option Slot → Option Slot → Type 0
Settles None new = new ≡ None
Settles (Some s) new = SettlesBy s.mark s new

-- so at each id
abbrev pub AreSettled : Slots → Slots → Type 0
AreSettled old new = (id : Id) → Settles (get old id) (get new id)
