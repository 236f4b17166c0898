-- The records that a cut appends.
use Rattle.std.specs.Prelude.{◌≡◌, ◌≢◌, ◌⊎◌, ℕ, Bool, true, false, List, [], ◌∷◌, ◌++◌, map, Option, Some, None}
use Rattle.std.specs.List.{AllByRecursion, list_any}
use Rattle.std.specs.Str.{bytes_eq}
use Rattle.std.specs.FinMap.{get}
use Rattle.object_ids.specs.IdValues.{Id}
use Rattle.object_ids.specs.Ids.{InRange}
use Rattle.chunk_store.specs.Grids.{Grid}
use Rattle.chunk_store.specs.Marks.{Stored, body_of}
use Rattle.object_acts.specs.declared.objects.Object.{Object}
use Rattle.object_acts.specs.declared.objects.Body.{Body}
use Rattle.object_acts.specs.declared.objects.Body.TheVariants as body
use Rattle.object_acts.specs.Objects.{kind_of_body}
use Rattle.flush_journal.specs.Cuts.Cuts.{IsCut}
use Rattle.flush_journal.specs.Records.{Held, Record}
use Rattle.object_records.specs.Keys.Keys.{chunk_key, object_key}
use Rattle.object_records.specs.Entries.{entry_of}
use Rattle.object_records.specs.Objects.{object_body, object_of_body}
use Rattle.chunk_owner.specs.declared.slots.slot.Mark.{Mark}
use Rattle.chunk_owner.specs.declared.slots.slot.Mark.TheVariants.{Kept, Changed, Dropped}
use Rattle.chunk_owner.specs.declared.slots.slot.Slot.{Slot}
use Rattle.chunk_owner.specs.Slots.Settled.{AreSettled}
use Rattle.chunk_owner.specs.Slots.Slots.{IsMarked, Says, Slots, is_index, is_meant}

-- ---- an object

-- no record, one that tells the object, or one that it is gone
abbrev pub IsObjectPart : List ℕ → Mark → Object → List Record → Type 0
IsObjectPart key Kept o added = added ≡ []
IsObjectPart key Changed o added =
    (bytes : List ℕ) × (object_of_body (kind_of_body o.body) bytes ≡ Some (entry_of o)) × (bytes ≢ []) × (added ≡ (key, bytes) ∷ []) × (bytes ≡ object_body o)
IsObjectPart key Dropped o added = added ≡ (key, []) ∷ []

abbrev pub AddsObject : List ℕ → Slot → List Record → List Record → Type 0
AddsObject key s old new = (added : List Record) × IsObjectPart key s.mark s.object added × (new ≡ old ++ added)

-- ---- chunks

-- a removed dataset's chunks are gone
abbrev pub chunk_body : Mark → Grid → List ℕ → List ℕ
chunk_body Dropped h i = []
chunk_body mark h i = body_of h i

abbrev pub chunk_record : Id → Mark → Grid → List ℕ → Record
chunk_record id mark h i = (chunk_key id i, chunk_body mark h i)

-- a chunk stands among others
abbrev pub is_among : List (List ℕ) → List ℕ → Bool
is_among is i = list_any (bytes_eq i) is

-- no chunk twice
abbrev pub AreDistinct : List (List ℕ) → Type 0
AreDistinct [] = Unit {0}
AreDistinct (i ∷ is) = (is_among is i ≡ false) × AreDistinct is

-- chunks whose records are to be written, each once; where the cut is whole, all of them
pub record AreMeant (mark : Mark) (s : Stored) (whole : Bool) (done : List (List ℕ)) : Type 0 where
  pub meant : AllByRecursion (λ i. (is_meant mark s i ≡ true) × (is_index i ≡ true)) done
  pub distinct : AreDistinct done
  pub all : whole ≡ true → (i : List ℕ) → is_meant mark s i ≡ true → is_among done i ≡ true

abbrev pub AddsChunks : Id → Mark → Stored → Bool → List Record → List Record → Type 0
AddsChunks id mark s whole old new = (done : List (List ℕ)) × AreMeant mark s whole done × (new ≡ old ++ map (chunk_record id mark s.grid) done)

abbrev pub AddsChunksIn : Id → Mark → Body → Bool → List Record → List Record → Type 0
AddsChunksIn id mark (body.Group links) whole old new = new ≡ old
AddsChunksIn id mark (body.Dataset array) whole old new = AddsChunks id mark array whole old new
AddsChunksIn id mark (body.Datatype type) whole old new = new ≡ old

-- ---- both

-- the records of an object and its chunks
abbrev pub AddsSlot : Id → Slot → List Record → List Record → Type 0
AddsSlot id s old new = (mid : List Record) × AddsObject (object_key id) s old mid × AddsChunksIn id s.mark s.object.body true mid new

-- some of them: none, or the object's and those of some chunks
abbrev pub AddsFront : Id → Slot → List Record → List Record → Type 0
AddsFront id s old new = (new ≡ old) ⊎ ((mid : List Record) × AddsObject (object_key id) s old mid × AddsChunksIn id s.mark s.object.body false mid new)

-- ---- at an id

-- what the cut of one id adds: nothing where it has no slot
abbrev pub AddsAt : Id → Option Slot → List Record → List Record → Type 0
AddsAt id None old new = new ≡ old
AddsAt id (Some s) old new = AddsSlot id s old new

abbrev pub AddsFrontAt : Id → Option Slot → List Record → List Record → Type 0
AddsFrontAt id None old new = new ≡ old
AddsFrontAt id (Some s) old new = AddsFront id s old new

-- ---- of all ids

-- the records with which what was held says of each id what stands there, once all is settled
abbrev pub AddsAll : Slots → List Record → List Record → Type 0
AddsAll slots old new = (settled : Slots) → AreSettled slots settled → (base : Held)
    → IsCut (IsMarked slots) base old new
    (λ held. (id : Id) → InRange id → Says (get slots id) id base → Says (get settled id) id held)
