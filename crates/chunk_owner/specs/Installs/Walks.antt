-- What is installed while records are walked over; for private clauses.
use Rattle.std.specs.Prelude.{◌≡◌, ℕ, ◌<◌, ◌≤◌, false, List, [], ◌++◌, Option, Some, None}
use Rattle.std.specs.FinMap.{entries, get, insert}
use Rattle.containers.specs.TextMaps.Fronts.{held_by}
use Rattle.flush_journal.specs.Records.{Held, Record}
use Rattle.object_ids.specs.IdValues.{Id}
use Rattle.object_ids.specs.Ids.{InRange, lane_of}
use Rattle.chunk_store.specs.Cells.{put}
use Rattle.chunk_store.specs.Grids.{Grid}
use Rattle.chunk_store.specs.Marks.{IsChunkOf, IsTracked, Stored, state, with_chunk}
use Rattle.chunk_store.specs.declared.array.InstallFault.{InstallFault as ChunkFault}
use Rattle.chunk_store.specs.declared.array.InstallFault.TheVariants as of_chunks
use Rattle.object_acts.specs.declared.objects.Body.{Body}
use Rattle.object_acts.specs.declared.objects.Body.TheVariants as body
use Rattle.object_acts.specs.Objects.{IsOfKind, IsSoundBody, IsTrackedBody, kind_of_body}
use Rattle.object_records.specs.Keys.Keys.{Subject, IsSubject, key_of}
use Rattle.object_records.specs.Keys.Keys.{the_run, node, object, chunk, next_number}
use Rattle.object_records.specs.Entries.{entry_of}
use Rattle.object_records.specs.Objects.{IsKeptBody, object_of_body}
use Rattle.object_records.specs.declared.faults.BodyFault.{BodyFault}
use Rattle.object_records.specs.declared.faults.BodyFault.TheVariants as of_bodies
use Rattle.chunk_owner.specs.declared.slots.slot.Mark.TheVariants.{Kept}
use Rattle.chunk_owner.specs.declared.slots.slot.Slot.{Slot}
use Rattle.chunk_owner.specs.Slots.Slots.{IsStillBody, IsStillSlot, Says, Slots}
use Rattle.chunk_owner.specs.declared.installs.faults.RecordFault.{RecordFault}
use Rattle.chunk_owner.specs.declared.installs.faults.RecordFault.TheVariants.{BadRecord, NoMemory}
use Rattle.chunk_owner.specs.declared.installs.keys.LaneKey.{LaneKey}
use Rattle.chunk_owner.specs.declared.installs.keys.LaneKey.TheVariants as lane_keys
use Rattle.chunk_owner.specs.Installs.Records.{IsBadObject, IsOfLane, KeepsRules}

-- what a lane's record is of
abbrev pub subject_of : LaneKey → Subject
subject_of (lane_keys.Object id) = object id
subject_of (lane_keys.Chunk c) = chunk c.dataset c.index

-- ---- faults

-- what a fault of a body or of a chunk is to the record
abbrev pub of_body : BodyFault → RecordFault
of_body of_bodies.NoObject = BadRecord
of_body of_bodies.NoMemory = NoMemory

abbrev pub of_chunk : ChunkFault → RecordFault
of_chunk of_chunks.BadChunk = BadRecord
of_chunk of_chunks.NoMemory = NoMemory

-- a record that can't stand is so for a reason
abbrev pub Blames : RecordFault → Type 0 → Type 0
Blames BadRecord P = P
Blames NoMemory P = Unit {0}

-- ---- objects

-- it changed in nothing, and is whole
pub record IsInstalled (id : Id) (s : Slot) : Type 0 where
  pub mark : s.mark ≡ Kept
  pub still : IsStillBody s.object.body
  pub kind : IsOfKind id.kind s.object
  pub whole : IsKeptBody s.object.body

-- the body tells it, and no chunk is known
pub record IsNew (run next : ℕ) (id : Id) (body : List ℕ) (s : Slot) : Type 0 where
  pub made : id.run ≤ run
  pub number : id.domain < next
  pub reads : object_of_body id.kind body ≡ Some (entry_of s.object)
  pub tracked : IsTrackedBody (λ _. []) s.object.body
  pub installed : IsInstalled id s

-- the slot of the object stands at its id
abbrev pub InstallsObject : ℕ → ℕ → Id → List ℕ → Slots → Slots → Type 0
InstallsObject run next id body old new = (s : Slot) × IsNew run next id body s × (new ≡ insert old id s)

-- ---- chunks

-- no chunk of the array has these bytes
abbrev pub NotChunkOf : Grid → List ℕ → List ℕ → Type 0
NotChunkOf h i body = IsChunkOf h i body → ⊥

-- no dataset's body takes it
abbrev pub NotTaken : List ℕ → List ℕ → Body → Type 0
NotTaken i bytes (body.Group links) = Unit {0}
NotTaken i bytes (body.Dataset array) = NotChunkOf array.grid i bytes
NotTaken i bytes (body.Datatype type) = Unit {0}

-- nor does what stands at an id
abbrev pub NotTakenAt : List ℕ → List ℕ → Option Slot → Type 0
NotTakenAt i bytes None = Unit {0}
NotTakenAt i bytes (Some s) = NotTaken i bytes s.object.body

-- the bytes are those of the chunk, which is unchanged
pub record ArrayTakes (i bytes : List ℕ) (old new : Stored) : Type 0 where
  pub chunk : IsChunkOf old.grid i bytes
  pub grid : new.grid ≡ with_chunk old.grid i bytes
  pub marks : (j : List ℕ) → state new j ≡ put (state old) i (Some false) j
  pub tracked : (bodies : List ℕ → List ℕ) → IsTracked bodies old → IsTracked (put bodies i bytes) new
  pub whole : IsKeptBody (body.Dataset new)

-- a dataset's array takes the chunk
abbrev pub BodyTakes : List ℕ → List ℕ → Body → Body → Type 0
BodyTakes i bytes (body.Group links) new = ⊥
BodyTakes i bytes (body.Dataset array) new = (taken : Stored) × (new ≡ body.Dataset taken) × ArrayTakes i bytes array taken
BodyTakes i bytes (body.Datatype type) new = ⊥

-- so the object's body does, and the rest of the slot stays
pub record SlotTakes (i bytes : List ℕ) (old new : Slot) : Type 0 where
  pub mark : new.mark ≡ old.mark
  pub attributes : new.object.attributes ≡ old.object.attributes
  pub body : BodyTakes i bytes old.object.body new.object.body

-- so the slot of a dataset does, and all others stay
abbrev pub InstallsChunk : Id → List ℕ → List ℕ → Slots → Slots → Type 0
InstallsChunk id i bytes old new = (s t : Slot) × (get old id ≡ Some s) × (new ≡ insert old id t) × SlotTakes i bytes s t

-- a body is of the same kind, and sound, unchanged and spelled where it was
pub record KeepsBody (old new : Body) : Type 0 where
  pub kind : kind_of_body new ≡ kind_of_body old
  pub sound : IsSoundBody old → IsSoundBody new
  pub still : IsStillBody old → IsStillBody new
  pub whole : IsKeptBody old → IsKeptBody new

-- so is a slot's, and the mark stays
pub record KeepsSlot (old new : Slot) : Type 0 where
  pub mark : new.mark ≡ old.mark
  pub body : KeepsBody old.object.body new.object.body

-- what had not changed still hasn't
abbrev pub KeepsStill : Slots → Slots → Type 0
KeepsStill old new = (id : Id) → IsStillSlot (get old id) → IsStillSlot (get new id)

-- ---- records

-- what a record of this subject tells is installed
abbrev pub Installs : ℕ → ℕ → Subject → List ℕ → Slots → Slots → Type 0
Installs run next the_run body old new = ⊥
Installs run next (node path) body old new = ⊥
Installs run next (object id) body old new = InstallsObject run next id body old new
Installs run next (chunk id i) body old new = InstallsChunk id i body old new
Installs run next next_number body old new = ⊥

-- it can't stand
abbrev pub IsRefused : ℕ → ℕ → Subject → List ℕ → Slots → Type 0
IsRefused run next the_run body slots = ⊥
IsRefused run next (node path) body slots = ⊥
IsRefused run next (object id) body slots = IsBadObject run next id body
IsRefused run next (chunk id i) body slots = NotTakenAt i body (get slots id)
IsRefused run next next_number body slots = ⊥

-- ---- a walk

-- the lane's records before the rest are installed, and keep to the rules
pub record IsWalk (lanes lane run next : ℕ) (held : Held) (rest : List Record) (slots : Slots) : Type 0 where
  pub front : List Record
  pub split : entries held ≡ front ++ rest
  pub says : (id : Id) → InRange id → lane_of lanes id ≡ lane → Says (get slots id) id (held_by front)
  pub own : (id : Id) (s : Slot) → get slots id ≡ Some s → InRange id × (lane_of lanes id ≡ lane)
  pub installed : (id : Id) (s : Slot) → get slots id ≡ Some s → IsInstalled id s
  pub rules : (s : Subject) (body : List ℕ) → IsSubject s → IsOfLane lanes lane s → get (held_by front) (key_of s) ≡ Some body → KeepsRules run next held s body
