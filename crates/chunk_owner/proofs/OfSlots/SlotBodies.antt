-- The records that the cut of a slot appends, with their bodies.
use Rattle.std.proofs.Common.{◌≡◌, ℕ, inl, inr, Bool, true, false, List, [], ◌∷◌, map, Some, refl, sym, ap, subst, ◌∙◌}
use Rattle.std.specs.List.{AllByRecursion}
use Rattle.object_ids.specs.IdValues.{Id}
use Rattle.object_ids.specs.declared.ids.Kind.TheVariants.{Dataset}
use Rattle.chunk_store.specs.Marks.{Stored}
use Rattle.object_acts.specs.declared.objects.Object.{Object}
use Rattle.object_acts.specs.declared.objects.Body.{Body}
use Rattle.object_acts.specs.declared.objects.Body.TheVariants as body
use Rattle.object_acts.specs.Objects.{bare, kind_of_body, unmarked, unmarked_body}
use Rattle.flush_journal.specs.Records.{Record}
use Rattle.flush_journal.specs.Cuts.Cuts.{AppendsEach}
use Rattle.flush_journal.proofs.OfCuts.CutLemmas.{appends_all, appends_more, appends_none}
use Rattle.object_records.specs.Keys.Keys.{object_key}
use Rattle.object_records.proofs.BodyLemmas.{body_unmarked}
use Rattle.chunk_owner.specs.declared.slots.slot.Mark.{Mark}
use Rattle.chunk_owner.specs.declared.slots.slot.Mark.TheVariants.{Kept, Changed, Dropped}
use Rattle.chunk_owner.specs.declared.slots.slot.Slot.{Slot}
use Rattle.chunk_owner.specs.Slots.Slots.{is_index, is_meant, object_by, object_of}
use Rattle.chunk_owner.specs.Slots.Cutting.{AddsChunksIn, AddsFront, AddsObject, AddsSlot, IsObjectPart, chunk_record}
use Rattle.chunk_owner.specs.Slots.Bodies.{IsRecordOf}
use Rattle.chunk_owner.specs.Slots.Bodies.IsRecordOf.{of_object, of_chunk, of_none}

module _ (id : Id) where
  abbrev IsRecord : Mark → Object → Record → Type 0
  IsRecord mark o r = IsRecordOf id (object_by mark o) r

  object_each : (mark : Mark) (o : Object) (added : List Record) → IsObjectPart (object_key id) mark o added → AllByRecursion (IsRecord mark o) added
  object_each Kept o added part = subst (λ (rs : List Record). AllByRecursion (IsRecord Kept o) rs) (sym part) tt
  object_each Changed o added part = subst (λ (rs : List Record). AllByRecursion (IsRecord Changed o) rs) (sym part.3)
      (of_object (unmarked o) refl (ap (λ (bytes : List ℕ). (object_key id, bytes)) (part.4 ∙ sym (body_unmarked o))), tt)
  object_each Dropped o added part = subst (λ (rs : List Record). AllByRecursion (IsRecord Dropped o) rs) (sym part) (of_none refl refl (inl refl), tt)

  module _ (o : Object) (array : Stored) (is : o.body ≡ body.Dataset array) (kind : id.kind ≡ Dataset) where
    chunk_one : (mark : Mark) (i : List ℕ) → is_index i ≡ true → IsRecord mark o (chunk_record id mark array.grid i)
    chunk_one Kept i index = of_chunk (unmarked o) (bare array.grid) i refl (ap unmarked_body is) index kind refl
    chunk_one Changed i index = of_chunk (unmarked o) (bare array.grid) i refl (ap unmarked_body is) index kind refl
    chunk_one Dropped i index = of_none refl refl (inr (i, index, kind, refl))

    chunk_each : (mark : Mark) (done : List (List ℕ)) → AllByRecursion (λ i. (is_meant mark array i ≡ true) × (is_index i ≡ true)) done
        → AllByRecursion (IsRecord mark o) (map (chunk_record id mark array.grid) done)
    chunk_each mark [] meant = tt
    chunk_each mark (i ∷ done) meant = (chunk_one mark i meant.0.1, chunk_each mark done meant.1)

  same_each : (mark : Mark) (o : Object) (old new : List Record) → new ≡ old → AppendsEach (IsRecord mark o) old new
  same_each mark o old new same = subst (λ (rs : List Record). AppendsEach (IsRecord mark o) old rs) (sym same) (appends_none (IsRecord mark o) old)

  body_each : (mark : Mark) (o : Object) (b : Body) → o.body ≡ b → kind_of_body b ≡ id.kind → (whole : Bool) (old new : List Record) → AddsChunksIn id mark b whole old new → AppendsEach (IsRecord mark o) old new
  body_each mark o (body.Group links) is kind whole old new adds = same_each mark o old new adds
  body_each mark o (body.Dataset array) is kind whole old new adds =
      appends_all (IsRecord mark o) old new (map (chunk_record id mark array.grid) adds.0) (chunk_each o array is (sym kind) mark adds.0 adds.1.meant) adds.2
  body_each mark o (body.Datatype type) is kind whole old new adds = same_each mark o old new adds

  module _ (s : Slot) (kind : kind_of_body s.object.body ≡ id.kind) (old new : List Record) where
    both_each : (whole : Bool) (mid : List Record) → AddsObject (object_key id) s old mid → AddsChunksIn id s.mark s.object.body whole mid new → AppendsEach (IsRecordOf id (object_of (Some s))) old new
    both_each whole mid object chunks = appends_more (IsRecord s.mark s.object) old mid new
        (appends_all (IsRecord s.mark s.object) old mid object.0 (object_each s.mark s.object object.0 object.1) object.2)
        (body_each s.mark s.object s.object.body refl kind whole mid new chunks)

    -- each record of a slot is one of what stands there
    pub slot_each : AddsSlot id s old new → AppendsEach (IsRecordOf id (object_of (Some s))) old new
    slot_each adds = both_each true adds.0 adds.1 adds.2

    pub front_each : AddsFront id s old new → AppendsEach (IsRecordOf id (object_of (Some s))) old new
    front_each (inl same) = same_each s.mark s.object old new same
    front_each (inr adds) = both_each false adds.0 adds.1 adds.2
