-- The records of a lane's objects, and those that can't stand.
use Rattle.std.specs.Prelude.{◌≡◌, ◌≢◌, ◌⊎◌, ℕ, ◌<◌, ◌≤◌, List, Option, Some, None, option_and_then}
use Rattle.std.specs.FinMap.{get}
use Rattle.flush_journal.specs.Records.{Held, IsRecordMap}
use Rattle.object_ids.specs.IdValues.{Id}
use Rattle.object_ids.specs.Ids.{InRange, lane_of}
use Rattle.object_ids.specs.declared.ids.Kind.TheVariants.{Dataset}
use Rattle.chunk_store.specs.Grids.{Grid, all_fill}
use Rattle.chunk_store.specs.Marks.{IsChunkOf}
use Rattle.object_acts.specs.declared.objects.Object.{Object}
use Rattle.object_acts.specs.Objects.{unmarked}
use Rattle.object_records.specs.Keys.Keys.{IsChunk, Subject, IsSubject, chunk_key, key_of, object_key}
use Rattle.object_records.specs.Keys.Keys.{the_run, node, object, chunk, next_number}
use Rattle.object_records.specs.Entries.{Entry, Kept, group, dataset, datatype}
use Rattle.object_records.specs.Objects.{IsKeptBody, object_of_body}
use Rattle.chunk_owner.specs.Slots.Slots.{Describes}

-- ---- what each record of a lane keeps to

-- an object is in the lane of its id, and a chunk in that of its dataset
abbrev pub IsOfLane : ℕ → ℕ → Subject → Type 0
IsOfLane lanes lane the_run = ⊥
IsOfLane lanes lane (node path) = ⊥
IsOfLane lanes lane (object id) = lane_of lanes id ≡ lane
IsOfLane lanes lane (chunk id i) = lane_of lanes id ≡ lane
IsOfLane lanes lane next_number = ⊥

-- the key of no object's record, and of no chunk's
abbrev pub IsOther : List ℕ → Type 0
IsOther key = ((id : Id) → InRange id → object_key id ≢ key) × ((id : Id) (i : List ℕ) → IsChunk id i → chunk_key id i ≢ key)

-- the array that a dataset's record tells, with no cell written
abbrev pub grid_of : Kept → Option Grid
grid_of (group links) = None
grid_of (dataset e shape c fill) = Some (all_fill e shape c fill)
grid_of (datatype e) = None

-- the one that the record of a dataset's id tells
abbrev pub grid_at : Held → Id → Option Grid
grid_at held id = option_and_then (λ e. grid_of e.kept) (option_and_then (object_of_body Dataset) (get held (object_key id)))

-- an object that was made in a run up to this one, and in a domain whose number was given
pub record IsObjectRecord (run next : ℕ) (id : Id) (body : List ℕ) : Type 0 where
  pub made : id.run ≤ run
  pub number : id.domain < next
  pub entry : Entry
  pub reads : object_of_body id.kind body ≡ Some entry

-- a chunk of a dataset that has a record
pub record IsChunkRecord (held : Held) (id : Id) (i body : List ℕ) : Type 0 where
  pub grid : Grid
  pub there : grid_at held id ≡ Some grid
  pub fits : IsChunkOf grid i body

-- a record of this subject keeps to the rules
abbrev pub KeepsRules : ℕ → ℕ → Held → Subject → List ℕ → Type 0
KeepsRules run next held the_run body = Unit {0}
KeepsRules run next held (node path) body = Unit {0}
KeepsRules run next held (object id) body = IsObjectRecord run next id body
KeepsRules run next held (chunk id i) body = IsChunkRecord held id i body
KeepsRules run next held next_number body = Unit {0}

-- each record of the lane keeps to them
abbrev pub AreSound : ℕ → ℕ → ℕ → ℕ → Held → Type 0
AreSound lanes lane run next held = (s : Subject) (body : List ℕ) → IsSubject s → IsOfLane lanes lane s → get held (key_of s) ≡ Some body → KeepsRules run next held s body

-- ---- records that can't stand

-- the body tells no object of the kind, or the run or the domain's number was not given yet
abbrev pub IsBadObject : ℕ → ℕ → Id → List ℕ → Type 0
IsBadObject run next id body = (object_of_body id.kind body ≡ None) ⊎ (run < id.run) ⊎ (next ≤ id.domain)

-- no record tells such a dataset, or the body tells no chunk of it
abbrev pub IsBadChunk : Held → Id → List ℕ → List ℕ → Type 0
IsBadChunk held id i body = (grid_at held id ≡ None) ⊎ ((h : Grid) × (grid_at held id ≡ Some h) × (IsChunkOf h i body → ⊥))

-- a record of this subject breaks them
abbrev pub IsBad : ℕ → ℕ → Held → Subject → List ℕ → Type 0
IsBad run next held the_run body = ⊥
IsBad run next held (node path) body = ⊥
IsBad run next held (object id) body = IsBadObject run next id body
IsBad run next held (chunk id i) body = IsBadChunk held id i body
IsBad run next held next_number body = ⊥

-- the key of a record of the lane that can't stand
pub record IsFault (lanes lane run next : ℕ) (held : Held) (key : List ℕ) : Type 0 where
  pub subject : Subject
  pub is : IsSubject subject
  pub own : IsOfLane lanes lane subject
  pub of : key_of subject ≡ key
  pub body : List ℕ
  pub here : get held key ≡ Some body
  pub bad : IsBad run next held subject body

-- ---- whole objects

-- each part of it can be spelled, and it is as requests see it
abbrev pub IsWholeObject : Option Object → Type 0
IsWholeObject None = Unit {0}
IsWholeObject (Some o) = IsKeptBody o.body × (unmarked o ≡ o)

-- what is held describes the objects of a lane, which were made in runs and domains that were given
pub record AreHeld (lanes lane run next : ℕ) (held : Held) (objects : Id → Option Object) : Type 0 where
  pub bodies : IsRecordMap held
  pub described : (id : Id) → InRange id → lane_of lanes id ≡ lane → Describes held id (objects id)
  pub given : (id : Id) (o : Object) → objects id ≡ Some o → (id.run ≤ run) × (id.domain < next)
