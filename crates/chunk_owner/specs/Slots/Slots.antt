-- The slots of a lane, and what records say of them.
use Rattle.std.specs.Prelude.{◌≡◌, ◌≢◌, ◌⊎◌, ℕ, ◌^◌, ◌&&◌, Bool, true, false, cond, nat_le, nat_lt, List, [], ◌∷◌, length, Option, Some, None, option_and_then}
use Rattle.std.specs.FinMap.{FinMap, entries, from_entries, get}
use Rattle.std.specs.List.{list_all}
use Rattle.std.specs.Option.{option_map_or}
use Rattle.containers.specs.TextMaps.Nexts.{IsNext}
use Rattle.object_ids.specs.IdOrder.{id_order}
use Rattle.object_ids.specs.IdValues.{Id}
use Rattle.object_ids.specs.Ids.{InRange}
use Rattle.object_ids.specs.declared.ids.Kind.TheVariants.{Dataset}
use Rattle.shapes.specs.declared.TheConstants.{MAX_RANK}
use Rattle.chunk_store.specs.Marks.{Stored, IsChunkOf, IsTracked, ReadsAs, is_dirty, is_known}
use Rattle.object_acts.specs.declared.objects.Object.{Object}
use Rattle.object_acts.specs.declared.objects.Body.{Body}
use Rattle.object_acts.specs.declared.objects.Body.TheVariants as body
use Rattle.object_acts.specs.Objects.{IsOfKind, kind_of_body, unmarked}
use Rattle.flush_journal.specs.Records.{Held}
use Rattle.object_records.specs.Keys.Keys.{chunk_key, object_key}
use Rattle.object_records.specs.Entries.{entry_of}
use Rattle.object_records.specs.Objects.{IsKeptBody, object_of_body}
use Rattle.chunk_owner.specs.declared.slots.slot.Mark.{Mark}
use Rattle.chunk_owner.specs.declared.slots.slot.Mark.TheVariants.{Kept, Dropped}
use Rattle.chunk_owner.specs.declared.slots.slot.Slot.{Slot}

abbrev pub Slots : Type 0
Slots = FinMap id_order Slot

-- each object is of its id's kind
abbrev pub AreOfKind : Slots → Type 0
AreOfKind slots = (id : Id) (s : Slot) → get slots id ≡ Some s → IsOfKind id.kind s.object

-- ---- the objects that stand

abbrev pub object_by : Mark → Object → Option Object
object_by Dropped o = None
object_by mark o = Some (unmarked o)

-- the object of a slot, as requests see it: none where it was removed
abbrev pub object_of : Option Slot → Option Object
object_of None = None
object_of (Some s) = object_by s.mark s.object

-- the entries of those
abbrev pub with_standing : Id → Option Object → List (Id × Object) → List (Id × Object)
with_standing id None es = es
with_standing id (Some o) es = (id, o) ∷ es

abbrev pub standing : List (Id × Slot) → List (Id × Object)
standing [] = []
standing (e ∷ es) = with_standing e.0 (object_of (Some e.1)) (standing es)

-- the objects of all slots, as requests see them
abbrev pub objects_of : Slots → FinMap id_order Object
objects_of slots = from_entries (standing (entries slots))

-- the least id behind another that has an object; none where no later one has
abbrev pub IsNextObject : Slots → Option Id → Option Id → Type 0
IsNextObject slots after next = IsNext (objects_of slots) after next

-- ---- what records say

-- the record of an object, or the want of one, tells the object
abbrev pub IsRecordOf : Option Object → Option (List ℕ) → Type 0
IsRecordOf None found = found ≡ None
IsRecordOf (Some o) found = option_and_then (object_of_body (kind_of_body o.body)) found ≡ Some (entry_of o)

-- a number of 32 bits for each axis of an array
abbrev pub is_index : List ℕ → Bool
is_index i = nat_le (length i) MAX_RANK && list_all (λ n. nat_lt n (2 ^ 32)) i

-- the body of a chunk's record: no byte where there is no record, as of what is no index
abbrev pub chunks_at : Held → Id → List ℕ → List ℕ
chunks_at held id i = cond (is_index i) (option_map_or (λ body. body) (get held (chunk_key id i)) []) []

-- no chunk of a dataset's id has a record
abbrev pub HasNoChunks : Held → Id → Type 0
HasNoChunks held id = id.kind ≡ Dataset → (i : List ℕ) → chunks_at held id i ≡ []

-- the records of chunks stand for those that aren't marked as changed; of a removed array there are none but of known chunks
abbrev pub AreChunksOf : Mark → (List ℕ → List ℕ) → Stored → Type 0
AreChunksOf Dropped bodies s = (i : List ℕ) → is_known s i ≡ false → bodies i ≡ []
AreChunksOf mark bodies s = IsTracked bodies s

-- only datasets have chunks
abbrev pub AreChunksIn : Mark → (List ℕ → List ℕ) → Body → Type 0
AreChunksIn mark bodies (body.Group links) = Unit {0}
AreChunksIn mark bodies (body.Dataset array) = AreChunksOf mark bodies array
AreChunksIn mark bodies (body.Datatype type) = Unit {0}

-- an object that is kept has its record
abbrev pub HasRecord : Mark → Object → Option (List ℕ) → Type 0
HasRecord Kept o found = IsRecordOf (Some o) found
HasRecord mark o found = Unit {0}

-- what is held says what stands at an id, but for what changed since the last cut
abbrev pub Says : Option Slot → Id → Held → Type 0
Says None id held = IsRecordOf None (get held (object_key id)) × HasNoChunks held id
Says (Some s) id held = HasRecord s.mark s.object (get held (object_key id)) × AreChunksIn s.mark (chunks_at held id) s.object.body

-- what is held says of each id what it said
abbrev pub StillSays : Slots → Slots → Type 0
StillSays old new = (id : Id) (held : Held) → Says (get old id) id held → Says (get new id) id held

-- no id has a slot that had none
abbrev pub HasSameIds : Slots → Slots → Type 0
HasSameIds old new = (id : Id) → get old id ≡ None → get new id ≡ None

-- ---- marks

-- a chunk whose record the next cut writes: one that changed, or one that is known of a removed array
abbrev pub is_meant : Mark → Stored → List ℕ → Bool
is_meant Dropped s i = is_known s i
is_meant mark s i = is_dirty s i

abbrev pub IsMeantIn : Mark → Body → List ℕ → Type 0
IsMeantIn mark (body.Group links) i = ⊥
IsMeantIn mark (body.Dataset array) i = is_meant mark array i ≡ true
IsMeantIn mark (body.Datatype type) i = ⊥

-- the key is that of an object that changed or was removed, or of a chunk that is to be written
abbrev pub IsChunkMarked : Id → Mark → Body → List ℕ → Type 0
IsChunkMarked id mark b key = (i : List ℕ) × (key ≡ chunk_key id i) × (is_index i ≡ true) × (id.kind ≡ Dataset) × IsMeantIn mark b i

abbrev pub IsMarkedIn : Id → Mark → Body → List ℕ → Type 0
IsMarkedIn id mark b key = ((key ≡ object_key id) × (mark ≢ Kept)) ⊎ IsChunkMarked id mark b key

pub record IsMarked (slots : Slots) (key : List ℕ) : Type 0 where
  pub id : Id
  pub range : InRange id
  pub slot : Slot
  pub here : get slots id ≡ Some slot
  pub part : IsMarkedIn id slot.mark slot.object.body key

-- nothing changed since the last cut
abbrev pub IsStillBody : Body → Type 0
IsStillBody (body.Group links) = Unit {0}
IsStillBody (body.Dataset array) = (i : List ℕ) → is_dirty array i ≡ false
IsStillBody (body.Datatype type) = Unit {0}

abbrev pub IsStill : Slot → Type 0
IsStill s = (s.mark ≡ Kept) × IsStillBody s.object.body

-- so of what stands at an id, if anything does
abbrev pub IsStillSlot : Option Slot → Type 0
IsStillSlot None = Unit {0}
IsStillSlot (Some s) = IsStill s

abbrev pub AreStill : Slots → Type 0
AreStill slots = (id : Id) (s : Slot) → get slots id ≡ Some s → IsStill s

-- each part of it can be spelled
abbrev pub IsSpelledSlot : Option Slot → Type 0
IsSpelledSlot None = Unit {0}
IsSpelledSlot (Some s) = IsKeptBody s.object.body

-- ---- the objects that records describe

-- the records of chunks give each cell its bytes, and each is a chunk of the array
abbrev pub HasCells : (List ℕ → List ℕ) → Body → Type 0
HasCells bodies (body.Group links) = Unit {0}
HasCells bodies (body.Dataset array) = ReadsAs bodies array.grid × ((i : List ℕ) → bodies i ≢ [] → IsChunkOf array.grid i (bodies i))
HasCells bodies (body.Datatype type) = Unit {0}

-- what is held describes what stands at an id, an object of its kind
abbrev pub Describes : Held → Id → Option Object → Type 0
Describes held id None = IsRecordOf None (get held (object_key id)) × HasNoChunks held id
Describes held id (Some o) = (kind_of_body o.body ≡ id.kind) × IsRecordOf (Some o) (get held (object_key id)) × HasCells (chunks_at held id) o.body
