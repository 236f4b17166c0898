-- What records say of the objects of all lanes.
use Rattle.std.specs.Prelude.{◌≡◌, ℕ, ◌<◌, ◌≤◌, ◌⊎◌, List, [], ◌∷◌, Some, None}
use Rattle.std.specs.FinMap.{get}
use Rattle.std.specs.List.{AllByRecursion}
use Rattle.object_ids.specs.IdValues.{Id}
use Rattle.object_ids.specs.Ids.{InRange, lane_of}
use Rattle.object_acts.specs.declared.objects.Object.{Object}
use Rattle.flush_journal.specs.Records.{Held, Record}
use Rattle.chunk_owner.specs.Slots.Bodies.{IsRecordOf, IsUndropped}
use Rattle.chunk_owner.specs.Slots.Slots.{AreStill, Describes, IsMarked, Says}
use Rattle.chunk_owner.specs.Installs.Records.{AreSound, IsFault, IsOther}
use Rattle.containers.specs.TextMaps.Fronts.{IsLeast}
use Rattle.chunk_owner.specs.Lanes.{Lane}
use Rattle.chunk_owner.specs.Owners.Joined.{whole}
use Rattle.object_acts.specs.Objects.{Objects}

-- what is held says what stands at each id of a lane, but for what changed since the last cut
abbrev pub LaneSays : Held → Lane → Type 0
LaneSays held l = (id : Id) → InRange id → lane_of l.lanes id ≡ l.lane → Says (get l.slots id) id held

-- so it does of each lane
abbrev pub LanesSay : List Lane → Held → Type 0
LanesSay lanes held = AllByRecursion (LaneSays held) lanes

-- what is held says of each lane what it said
abbrev pub LanesStillSay : List Lane → List Lane → Type 0
LanesStillSay old new = (held : Held) → LanesSay old held → LanesSay new held

-- the next cut writes the record of this key
abbrev pub IsMarkedIn : List Lane → List ℕ → Type 0
IsMarkedIn [] key = ⊥
IsMarkedIn (l ∷ ls) key = IsMarked l.slots key ⊎ IsMarkedIn ls key

-- nothing changed since the last cut
abbrev pub AreStillIn : List Lane → Type 0
AreStillIn lanes = AllByRecursion (λ l. AreStill l.slots) lanes

-- no object was removed since the last cut
abbrev pub AreUndropped : List Lane → Type 0
AreUndropped lanes = AllByRecursion (λ l. IsUndropped l.slots) lanes

-- a record of an object that stands, or of one of its chunks
pub record IsStandingRecord (objects : Objects) (r : Record) : Type 0 where
  pub id : Id
  pub range : InRange id
  pub object : Object
  pub here : get objects id ≡ Some object
  pub of : IsRecordOf id (Some object) r

-- where no object was removed since the last cut, the record is of one that stands
abbrev pub IsStandingIn : List Lane → Record → Type 0
IsStandingIn lanes r = AreUndropped lanes → IsStandingRecord (whole lanes) r

-- what is held describes the objects of all lanes
abbrev pub DescribesObjects : Held → Objects → Type 0
DescribesObjects held m = (id : Id) → InRange id → Describes held id (get m id)

-- each object was made in a run up to this one, and in a domain whose number was given
abbrev pub AreGivenUpTo : ℕ → ℕ → Objects → Type 0
AreGivenUpTo run next m = (id : Id) (o : Object) → get m id ≡ Some o → (id.run ≤ run) × (id.domain < next)

-- each record of no object and no chunk is held as before
abbrev pub KeepsOthers : Held → Held → Type 0
KeepsOthers old new = (key : List ℕ) → IsOther key → get new key ≡ get old key

-- no record of an object or of a chunk is left
abbrev pub HasOthersAlone : Held → Type 0
HasOthersAlone held = (key : List ℕ) → (IsOther key → ⊥) → get held key ≡ None

-- ---- records that can't stand

-- each record of each lane keeps to the rules
abbrev pub AreSoundIn : ℕ → ℕ → ℕ → Held → Type 0
AreSoundIn lanes run next held = (lane : ℕ) → lane < lanes → AreSound lanes lane run next held

-- the first lane of so many that has a key at fault, and its least one
pub record IsFirstFault (lanes run next : ℕ) (held : Held) (key : List ℕ) : Type 0 where
  pub lane : ℕ
  pub of : lane < lanes
  pub before : (earlier : ℕ) → earlier < lane → (k : List ℕ) → IsFault lanes earlier run next held k → ⊥
  pub least : IsLeast (IsFault lanes lane run next held) key

-- no record of any lane is at fault
abbrev pub AreFaultless : ℕ → ℕ → ℕ → Held → Type 0
AreFaultless lanes run next held = (lane : ℕ) → lane < lanes → (key : List ℕ) → IsFault lanes lane run next held key → ⊥
