-- What an owner is: its lane, how many lanes there are, its objects by their ids, and what the next cut writes of them.
use Rattle.std.specs.Prelude.{◌≡◌, ◌≢◌, ℕ, ◌<◌, ◌==◌, Option, Some, None, if◌then◌else◌}
use Rattle.std.specs.FinMap.{get, insert, remove}
use Rattle.containers.specs.TextMaps.Keyed.{with_values}
use Rattle.object_ids.specs.IdValues.{Id}
use Rattle.object_ids.specs.Ids.{InRange, lane_of}
use Rattle.object_acts.specs.declared.objects.Object.{Object}
use Rattle.object_acts.specs.Objects.{unmarked, IsOfKind, Objects}
use Rattle.chunk_owner.specs.declared.slots.slot.Slot.{Slot}
use Rattle.chunk_owner.specs.Installs.Records.{IsWholeObject}
use Rattle.chunk_owner.specs.Slots.Slots.{IsSpelledSlot, Slots, objects_of}
use Rattle.chunk_owner.specs.Slots.Slots.{AreOfKind as AreSlotsOfKind}

-- the objects as requests see them
abbrev pub shown : Objects → Objects
shown = with_values unmarked

-- no chunk of them is marked as changed, so they are seen as they are
abbrev pub AreShown : Objects → Type 0
AreShown m = shown m ≡ m

-- the objects as requests see them, and beside them what the next cut writes
pub record Lane : Type 0 where
  pub lane : ℕ
  pub lanes : ℕ
  pub objects : Objects
  pub slots : Slots

-- each object stands so at its id
abbrev pub Each : (Id → Object → Type 0) → Objects → Type 0
Each P objects = (id : Id) (o : Object) → get objects id ≡ Some o → P id o

-- each object is of its id's kind
abbrev pub AreOfKind : Objects → Type 0
AreOfKind = Each (λ id o. IsOfKind id.kind o)

-- each stands at an id that may have a record, and each of its parts can be spelled
abbrev pub AreWholeObjects : Objects → Type 0
AreWholeObjects = Each (λ id o. InRange id × IsWholeObject (Some o))

-- an id of the lane, with an object of the id's kind
pub record StandsIn (lane lanes : ℕ) (id : Id) (o : Object) : Type 0 where
  pub own : lane_of lanes id ≡ lane
  pub kind : IsOfKind id.kind o

-- each slot is at an id of the lane
abbrev pub AreHome : ℕ → ℕ → Slots → Type 0
AreHome lane lanes slots = (id : Id) (s : Slot) → get slots id ≡ Some s → lane_of lanes id ≡ lane

-- the lane is one of the lanes, and each slot stands in it, with an object each part of which can be spelled
pub record AreSlotsOf (lane lanes : ℕ) (slots : Slots) : Type 0 where
  pub below : lane < lanes
  pub home : AreHome lane lanes slots
  pub range : (id : Id) (s : Slot) → get slots id ≡ Some s → InRange id
  pub kinds : AreSlotsOfKind slots
  pub spelled : (id : Id) → IsSpelledSlot (get slots id)

-- the lane of these slots
abbrev pub lane_with : ℕ → ℕ → Slots → Lane
lane_with lane lanes slots = record { lane = lane; lanes = lanes; objects = objects_of slots; slots = slots }

-- the lane is one of the lanes, each object stands in it, and the objects are those of the slots that weren't removed
pub record IsWhole (l : Lane) : Type 0 where
  pub lane : l.lane < l.lanes
  pub own : Each (StandsIn l.lane l.lanes) l.objects
  pub objects : l.objects ≡ objects_of l.slots
  pub slots : AreSlotsOf l.lane l.lanes l.slots

-- a step at an id leaves each slot at another one
abbrev pub LeavesOthers : Id → Slots → Slots → Type 0
LeavesOthers id old new = (other : Id) → other ≢ id → get new other ≡ get old other

-- so does one at the id that it touches, where it touches one
abbrev pub LeavesUntouched : Option Id → Slots → Slots → Type 0
LeavesUntouched None old new = new ≡ old
LeavesUntouched (Some id) old new = LeavesOthers id old new

-- it is the same lane of as many
pub record IsSameLane (old new : Lane) : Type 0 where
  pub lane : new.lane ≡ old.lane
  pub lanes : new.lanes ≡ old.lanes

-- ---- one of the objects

-- the objects with this at an id, or with none there
abbrev pub set_at : Objects → Id → Option Object → Objects
set_at m id None = remove m id
set_at m id (Some o) = insert m id o

-- what `f` answers and leaves at one id; all others stay
abbrev pub at_id : {A : Type 0} → Id → (Option Object → A × Option Object) → Objects → A × Objects
at_id id f m = ((f (get m id)).0, set_at m id (f (get m id)).1)

-- ---- the objects of one domain

-- the objects of a domain's number are gone, and all others stay
abbrev pub Forgets : ℕ → Objects → Objects → Type 0
Forgets number old new = (id : Id) → get new id ≡ (if id.domain == number then None else get old id)
