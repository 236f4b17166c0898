-- The bodies of the records that a cut appends.
use Rattle.std.specs.Prelude.{◌≡◌, ◌≢◌, ◌⊎◌, ℕ, true, List, [], Option, Some, None}
use Rattle.std.specs.FinMap.{FinMap, get}
use Rattle.object_ids.specs.IdOrder.{id_order}
use Rattle.object_ids.specs.IdValues.{Id}
use Rattle.object_ids.specs.Ids.{InRange}
use Rattle.object_ids.specs.declared.ids.Kind.TheVariants.{Dataset}
use Rattle.chunk_store.specs.Marks.{Stored, body_of}
use Rattle.object_acts.specs.declared.objects.Object.{Object}
use Rattle.object_acts.specs.declared.objects.Body.TheVariants as body
use Rattle.flush_journal.specs.Records.{Record}
use Rattle.object_records.specs.Keys.Keys.{chunk_key, object_key}
use Rattle.object_records.specs.Objects.{object_body}
use Rattle.chunk_owner.specs.declared.slots.slot.Mark.TheVariants.{Dropped}
use Rattle.chunk_owner.specs.declared.slots.slot.Slot.{Slot}
use Rattle.chunk_owner.specs.Slots.Slots.{Slots, is_index, object_of}

-- a record of what stands at an id: of the object, or of one of its chunks; without a byte where none stands
pub data IsRecordOf (id : Id) (o : Option Object) (r : Record) : Type 0 where
  of_object : (x : Object) → o ≡ Some x → r ≡ (object_key id, object_body x) → IsRecordOf id o r
  of_chunk : (x : Object) (array : Stored) (i : List ℕ) → o ≡ Some x → x.body ≡ body.Dataset array → is_index i ≡ true → id.kind ≡ Dataset
      → r ≡ (chunk_key id i, body_of array.grid i) → IsRecordOf id o r
  of_none : o ≡ None → r.1 ≡ [] → (r.0 ≡ object_key id) ⊎ ((i : List ℕ) × (is_index i ≡ true) × (id.kind ≡ Dataset) × (r.0 ≡ chunk_key id i)) → IsRecordOf id o r

-- a record of what stands in a lane at an id that has a slot
pub record IsSlotRecord (slots : Slots) (r : Record) : Type 0 where
  pub id : Id
  pub range : InRange id
  pub slot : Slot
  pub here : get slots id ≡ Some slot
  pub of : IsRecordOf id (object_of (Some slot)) r

-- a record of what stands among objects
pub record IsObjectRecord (objects : FinMap id_order Object) (r : Record) : Type 0 where
  pub id : Id
  pub range : InRange id
  pub of : IsRecordOf id (get objects id) r

-- no object was removed since the last cut
abbrev pub IsUndropped : Slots → Type 0
IsUndropped slots = (id : Id) (s : Slot) → get slots id ≡ Some s → s.mark ≢ Dropped
