-- What holds of lanes beside each other: of their objects as one map, and of the keys of their records.
--     AreJoined lanes lane all     the objects of so many lanes, each with ids of its own, are those of one map
--     IsKeyAt id key               the key is of the record of an id's object, or of one of its chunks
--     IsKeyOfLane lanes lane key   so it is of an id of the lane
use Rattle.std.specs.Prelude.{◌≡◌, ◌≢◌, ◌⊎◌, ℕ, zero, suc, ◌<◌, ◌==◌, true, not, List, [], ◌∷◌, length, get_or, Option, Some, None}
use Rattle.std.specs.FinMap.{empty, entries, from_entries, get}
use Rattle.std.specs.List.{AllByRecursion, filter}
use Rattle.object_ids.specs.IdValues.{Id}
use Rattle.object_ids.specs.Ids.{InRange, lane_of}
use Rattle.object_ids.specs.declared.ids.Kind.TheVariants.{Dataset}
use Rattle.object_ops.specs.declared.ops.Op.{Op}
use Rattle.object_ops.specs.declared.grants.Grant.{Grant}
use Rattle.object_ops.specs.declared.grants.Step.{Step}
use Rattle.object_acts.specs.declared.objects.Object.{Object}
use Rattle.object_acts.specs.Objects.{IsOfKind, Objects}
use Rattle.flush_journal.specs.Records.{Held, Record, put_all}
use Rattle.object_records.specs.Keys.Keys.{chunk_key, object_key}
use Rattle.chunk_owner.specs.declared.slots.slot.Slot.{Slot}
use Rattle.chunk_owner.specs.Slots.Slots.{AreOfKind, Describes, IsMarked, Says, Slots, is_index}
use Rattle.chunk_owner.specs.Lanes.{AreHome, Forgets, Lane}
use Rattle.chunk_owner.specs.Acts.{acted, touched}
use Rattle.chunk_owner.specs.Owners.Joined.{AreLanes, whole}
use Rattle.chunk_owner.specs.Owners.Records.{LaneSays}

-- ---- what a step adds

-- an object that a step adds has the root's id or the fresh one
abbrev pub AddsOnlyGiven : Type 0
AddsOnlyGiven = (g : Grant) (op : Op) (s : Step) (objects : Objects) (id : Id) (o : Object)
    → get objects id ≡ None → get (acted g op s objects).1 id ≡ Some o
    → (id ≡ g.root) ⊎ (g.fresh ≡ Some id)

-- ---- the objects of all lanes

-- an object stands in the lane of its id and nowhere else, and in the map
pub record AreJoined (lanes : ℕ) (lane : ℕ → Objects) (all : Objects) : Type 0 where
  pub here : (id : Id) → get all id ≡ get (lane (lane_of lanes id)) id
  pub own : (k : ℕ) (id : Id) → lane_of lanes id ≢ k → get (lane k) id ≡ None

-- the objects of the lane of a number; none where there is no such lane
abbrev pub objects_in : List Lane → ℕ → Objects
objects_in [] k = empty
objects_in (l ∷ ls) zero = l.objects
objects_in (l ∷ ls) (suc k) = objects_in ls k

-- those of lanes that were joined are so
abbrev pub WholeIsJoined : Type 0
WholeIsJoined = (ls : List Lane) → AreLanes (length ls) 0 ls → AreJoined (length ls) (objects_in ls) (whole ls)

-- what stands at an id is what stands in its lane
abbrev pub IsFoundAtHome : Type 0
IsFoundAtHome = (ls : List Lane) (l : Lane) (id : Id) → AreLanes (length ls) 0 ls
    → lane_of (length ls) id < length ls → get_or ls (lane_of (length ls) id) l ≡ l
    → get (whole ls) id ≡ get l.objects id

-- the lanes leave no choice of the map
abbrev pub JoinedAreOne : Type 0
JoinedAreOne = (lanes : ℕ) (lane : ℕ → Objects) (a b : Objects) → AreJoined lanes lane a
    → AreJoined lanes lane b → a ≡ b

-- ---- what is done in lanes

-- a step answers the same in the lane of the id that it touches, and leaves there what it leaves; every other lane stays
abbrev pub ActsAtHome : Type 0
ActsAtHome = (lanes : ℕ) (lane left : ℕ → Objects) (all : Objects) (g : Grant) (op : Op) (s : Step) (id : Id)
    → AreJoined lanes lane all → touched g op s ≡ Some id
    → left (lane_of lanes id) ≡ (acted g op s (lane (lane_of lanes id))).1
    → ((k : ℕ) → k ≢ lane_of lanes id → left k ≡ lane k)
    → ((acted g op s all).0 ≡ (acted g op s (lane (lane_of lanes id))).0) × AreJoined lanes left (acted g op s all).1

-- the objects without those of a domain
abbrev pub without_domain : ℕ → Objects → Objects
without_domain number m = from_entries (filter (λ e. not (e.0.domain == number)) (entries m))

abbrev pub WithoutForgets : Type 0
WithoutForgets = (number : ℕ) (m : Objects) → Forgets number m (without_domain number m)

-- a domain is dropped by dropping it in each lane
abbrev pub DropsInEach : Type 0
DropsInEach = (lanes : ℕ) (lane : ℕ → Objects) (all : Objects) (number : ℕ) → AreJoined lanes lane all
    → AreJoined lanes (λ k. without_domain number (lane k)) (without_domain number all)

-- ---- keys

abbrev pub IsKeyAt : Id → List ℕ → Type 0
IsKeyAt id key = (key ≡ object_key id) ⊎ ((i : List ℕ) × (is_index i ≡ true) × (id.kind ≡ Dataset) × (key ≡ chunk_key id i))

pub record IsKeyOfLane (lanes lane : ℕ) (key : List ℕ) : Type 0 where
  pub id : Id
  pub range : InRange id
  pub home : lane_of lanes id ≡ lane
  pub part : IsKeyAt id key

-- what a cut of a lane writes has keys of the lane
abbrev pub MarksAreOfLane : Type 0
MarksAreOfLane = (lanes lane : ℕ) (slots : Slots) → AreHome lane lanes slots → (key : List ℕ)
    → IsMarked slots key → IsKeyOfLane lanes lane key

-- no key is of two ids, so none is of two lanes
abbrev pub KeysAreOfOneId : Type 0
KeysAreOfOneId = (a b : Id) → InRange a → InRange b → (key : List ℕ) → IsKeyAt a key → IsKeyAt b key → a ≡ b

abbrev pub KeysAreOfOneLane : Type 0
KeysAreOfOneLane = (lanes a b : ℕ) (key : List ℕ) → IsKeyOfLane lanes a key → IsKeyOfLane lanes b key → a ≡ b

-- ---- records of other keys

-- records of which none is of the id leave what is said of it
abbrev pub OthersLeaveSaid : Type 0
OthersLeaveSaid = (id : Id) (added : List Record) → AllByRecursion (λ r. IsKeyAt id r.0 → ⊥) added
    → (held : Held) (o : Option Slot)
    → ((s : Slot) → o ≡ Some s → IsOfKind id.kind s.object) → Says o id held → Says o id (put_all added held)

-- and what is described there
abbrev pub OthersLeaveDescribed : Type 0
OthersLeaveDescribed = (id : Id) (added : List Record) → AllByRecursion (λ r. IsKeyAt id r.0 → ⊥) added
    → (held : Held) (o : Option Object)
    → Describes held id o → Describes (put_all added held) id o

-- those of which none is of the lane leave what is said of the lane
abbrev pub OthersLeaveLane : Type 0
OthersLeaveLane = (l : Lane) (added : List Record) → AreOfKind l.slots
    → AllByRecursion (λ r. IsKeyOfLane l.lanes l.lane r.0 → ⊥) added → (held : Held)
    → LaneSays held l → LaneSays (put_all added held) l

-- what is held describes the objects of a lane
abbrev pub DescribesLane : Held → ℕ → ℕ → Objects → Type 0
DescribesLane held lanes lane objects = (id : Id) → InRange id → lane_of lanes id ≡ lane
    → Describes held id (get objects id)

abbrev pub OthersLeaveDescribedLane : Type 0
OthersLeaveDescribedLane = (lanes lane : ℕ) (objects : Objects) (added : List Record)
    → AllByRecursion (λ r. IsKeyOfLane lanes lane r.0 → ⊥) added → (held : Held)
    → DescribesLane held lanes lane objects → DescribesLane (put_all added held) lanes lane objects
