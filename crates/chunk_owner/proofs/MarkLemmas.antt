-- What a step marks for the next cut.
use Rattle.std.proofs.Common.{◌≡◌, inl, inr, ℕ, true, false, List, Option, Some, None, Result, refl, sym, subst}
use Rattle.std.specs.FinMap.{get}
use Rattle.object_ids.specs.IdValues.{Id}
use Rattle.object_ops.specs.declared.ops.LinkPlace.{LinkPlace}
use Rattle.object_ops.specs.declared.ops.Make.{Make}
use Rattle.object_ops.specs.declared.ops.Op.{Op}
use Rattle.object_ops.specs.declared.ops.Op.TheVariants.{DropObject, DropAttribute, DropLink, MakeObject, PutAttribute, PutLink, PutShape, PutValue}
use Rattle.object_ops.specs.declared.grants.Grant.{Grant}
use Rattle.object_ops.specs.declared.grants.Step.{Step}
use Rattle.object_ops.specs.declared.replies.Reply.{Reply}
use Rattle.object_ops.specs.Parts.{id_of}
use Rattle.object_acts.specs.Arrays.Marked.{IsDone}
use Rattle.object_acts.specs.declared.objects.Object.{Object}
use Rattle.object_acts.specs.declared.objects.Body.{Body}
use Rattle.object_acts.specs.declared.objects.Body.TheVariants.{Group, Dataset, Datatype}
use Rattle.object_acts.specs.Acts.{changes_object, reads_object}
use Rattle.object_acts.specs.Marked.{is_dirty_in}
use Rattle.object_records.specs.Keys.Keys.{object_key}
use Rattle.chunk_owner.specs.declared.slots.slot.Mark.TheVariants.{Changed}
use Rattle.chunk_owner.specs.declared.slots.slot.Slot.{Slot}
use Rattle.chunk_owner.specs.Slots.Marking.{AddsMarks}
use Rattle.chunk_owner.specs.Slots.Slots.{IsMarkedIn, Slots, object_of}
use Rattle.chunk_owner.proofs.OfSlots.Marks.{adds_more}
use Rattle.containers.proofs.Passing.{contrary}
use Rattle.chunk_owner.specs.Acts.{touched_by_make}
use Rattle.chunk_owner.specs.Marks.{IsChangeMark, IsKeyOf, IsMarkAt, IsStepMark}
use Rattle.chunk_owner.proofs.KeptLemmas.{touched_named}

-- of an object without chunks that changed, the key of the object alone
pub new_mark : (id : Id) (b : Body) (key : List ℕ) → ((i : List ℕ) → is_dirty_in b i ≡ false) → IsMarkedIn id Changed b key → key ≡ object_key id
new_mark id b key still (inl marked) = marked.0
new_mark id (Group links) key still (inr marked) = absurd marked.4
new_mark id (Dataset array) key still (inr marked) = contrary (is_dirty_in (Dataset array) marked.0) (key ≡ object_key id) marked.4 (still marked.0)
new_mark id (Datatype type) key still (inr marked) = absurd marked.4

-- ---- what is made, and what is linked to it

made_mark : (make : Make) (place : Option LinkPlace) (id : Id) (o : Option Object) (key : List ℕ) → key ≡ object_key id → IsChangeMark id (MakeObject make place) o key
made_mark make place id None key is = is
made_mark make place id (Some o) key is = inl (is, refl)

module _ (g : Grant) (make : Make) (place : Option LinkPlace) (s : Step) (m : Slots) where
  key_mark : (t : Option Id) (key : List ℕ) → touched_by_make g place s ≡ t → IsKeyOf t key → IsStepMark g (MakeObject make place) s m key
  key_mark None key at is = absurd is
  key_mark (Some id) key at is = record { id = id; at = at; changes = refl; part = made_mark make place id (object_of (get m id)) key is }

  pub made_alone : {E : Type 0} (op : Op) (r : Result Reply E) (n : Slots) → op ≡ MakeObject make place
      → AddsMarks (λ key. IsDone r × IsKeyOf (touched_by_make g place s) key) m n → AddsMarks (λ key. IsDone r × IsStepMark g op s m key) m n
  made_alone op r n is adds = subst (λ (w : Op). AddsMarks (λ key. IsDone r × IsStepMark g w s m key) m n) (sym is)
      (adds_more (λ key. IsDone r × IsKeyOf (touched_by_make g place s) key) m n (λ key. IsDone r × IsStepMark g (MakeObject make place) s m key)
      (λ key marked. (marked.0, key_mark (touched_by_make g place s) key refl marked.1)) adds)

-- ---- an operation that changes an object

changes_only : (op : Op) → changes_object op ≡ true → reads_object op ≡ false
changes_only (PutLink id title link) e = refl
changes_only (DropLink id title) e = refl
changes_only (PutAttribute id name attribute) e = refl
changes_only (DropAttribute id name) e = refl
changes_only (PutShape id dims) e = refl
changes_only (PutValue id part value) e = refl
changes_only op e = absurd (cc)

change_mark : (op : Op) (id : Id) (o : Option Slot) (key : List ℕ) → changes_object op ≡ true → IsChangeMark id op (object_of o) key → IsMarkAt id op o key
change_mark (DropObject at) id o key e marked = absurd (cc)
change_mark op id o key e marked = marked

pub changed_alone : {E : Type 0} (g : Grant) (op : Op) (s : Step) (id : Id) (r : Result Reply E) (m n : Slots) → changes_object op ≡ true → id_of op ≡ Some id
    → AddsMarks (λ key. IsDone r × IsChangeMark id op (object_of (get m id)) key) m n → AddsMarks (λ key. IsDone r × IsStepMark g op s m key) m n
changed_alone g op s id r m n changes names =
    adds_more (λ key. IsDone r × IsChangeMark id op (object_of (get m id)) key) m n (λ key. IsDone r × IsStepMark g op s m key) (λ key marked.
    (marked.0, record { id = id; at = touched_named g op s id names; changes = changes_only op changes; part = change_mark op id (get m id) key changes marked.1 }))
