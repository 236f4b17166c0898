-- What a slot is once its array has taken a chunk.
use Rattle.std.proofs.Common.{◌≡◌, ℕ, false, cond, bytes_eq, List, Option, Some, option_and_then, Result, Ok, Err, OnOk, OnErr, refl, sym, ap, subst, ◌∙◌, inr}
use Rattle.std.specs.FinMap.{get, insert}
use Rattle.object_ids.specs.IdValues.{Id}
use Rattle.object_ids.specs.declared.ids.Kind.TheVariants as kinds
use Rattle.chunk_store.specs.Cells.{put}
use Rattle.chunk_store.specs.Grids.{Grid}
use Rattle.chunk_store.specs.Marks.{IsChunkOf, IsTracked, Stored, flagged, state}
use Rattle.object_acts.specs.declared.objects.Object.{Object}
use Rattle.object_acts.specs.declared.objects.Body.{Body}
use Rattle.object_acts.specs.declared.objects.Body.TheVariants as body
use Rattle.object_acts.specs.Objects.{IsSoundBody, kind_of_body}
use Rattle.flush_journal.specs.Records.{Held}
use Rattle.object_records.specs.Keys.Keys.{object_key}
use Rattle.object_records.specs.Entries.{Entry, dataset, entry_of, kept_of}
use Rattle.object_records.specs.Objects.{IsKeptBody, object_of_body}
use Rattle.chunk_owner.specs.declared.slots.slot.Mark.{Mark}
use Rattle.chunk_owner.specs.declared.slots.slot.Mark.TheVariants as marks
use Rattle.chunk_owner.specs.declared.slots.slot.Slot.{Slot}
use Rattle.chunk_owner.specs.Slots.Slots.{AreChunksIn, HasRecord, IsRecordOf, IsStillBody, Slots}
use Rattle.containers.proofs.Passing.{by_bool}
use Rattle.chunk_owner.specs.Installs.Records.{IsBadChunk, IsChunkRecord, grid_at, grid_of}
use Rattle.chunk_owner.specs.Installs.Walks.{BodyTakes, InstallsChunk, IsInstalled, NotTaken, SlotTakes}
use Rattle.chunk_owner.proofs.OfInstalls.LaneKeys.{group_no_dataset, datatype_no_dataset}

pub chunk_put : {A E : Type 0} (r : Result A E) (m : Slots) (id : Id) (i bytes : List ℕ) (s t : Slot) → get m id ≡ Some s → OnOk r (SlotTakes i bytes s t) → OnOk r (InstallsChunk id i bytes m (insert m id t))
chunk_put (Ok x) m id i bytes s t here takes = (s, t, here, refl, takes)
chunk_put (Err e) m id i bytes s t here takes = tt

-- ---- a chunk is one of any array of the same parts

pub chunk_of_any : (h : Grid) (values : List (List ℕ)) (i bytes : List ℕ) → IsChunkOf h i bytes → IsChunkOf (record { kind = h.kind; shape = h.shape; chunk = h.chunk; fill = h.fill; values = values }) i bytes
chunk_of_any h values i bytes is = record { inside = is.inside; encoded = is.encoded; outside = is.outside }

pub chunk_of_its : (h : Grid) (values : List (List ℕ)) (i bytes : List ℕ) → IsChunkOf (record { kind = h.kind; shape = h.shape; chunk = h.chunk; fill = h.fill; values = values }) i bytes → IsChunkOf h i bytes
chunk_of_its h values i bytes is = record { inside = is.inside; encoded = is.encoded; outside = is.outside }

-- ---- bodies

module _ (i bytes : List ℕ) where
  kept_same : (x y : Body) → BodyTakes i bytes x y → kept_of y ≡ kept_of x
  kept_same (body.Group links) y takes = absurd takes
  kept_same (body.Dataset array) y takes = ap kept_of takes.1 ∙ ap (λ (g : Grid). dataset g.kind g.shape g.chunk g.fill) takes.2.grid
  kept_same (body.Datatype type) y takes = absurd takes

  kind_same : (x y : Body) → BodyTakes i bytes x y → kind_of_body y ≡ kind_of_body x
  kind_same (body.Group links) y takes = absurd takes
  kind_same (body.Dataset array) y takes = ap kind_of_body takes.1
  kind_same (body.Datatype type) y takes = absurd takes

  marks_still : (m n : Stored) → ((j : List ℕ) → state n j ≡ put (state m) i (Some false) j) → IsStillBody (body.Dataset m) → IsStillBody (body.Dataset n)
  marks_still m n marks still = λ j. ap flagged (marks j) ∙ by_bool (bytes_eq i j) (flagged (put (state m) i (Some false) j) ≡ false)
      (λ here. ap (λ b. flagged (cond b (Some false) (state m j))) here) (λ apart. ap (λ b. flagged (cond b (Some false) (state m j))) apart ∙ still j)

  -- whether it takes the chunk or not
  pub array_still : {A E : Type 0} (r : Result A E) (m n : Stored) → OnOk r ((j : List ℕ) → state n j ≡ put (state m) i (Some false) j) → OnErr r ((j : List ℕ) → state n j ≡ state m j)
      → IsStillBody (body.Dataset m) → IsStillBody (body.Dataset n)
  array_still (Ok x) m n marks same still = marks_still m n marks still
  array_still (Err e) m n marks same still = λ j. ap flagged (same j) ∙ still j

  still_same : (x y : Body) → BodyTakes i bytes x y → IsStillBody x → IsStillBody y
  still_same (body.Group links) y takes still = absurd takes
  still_same (body.Dataset array) y takes still = subst IsStillBody (sym takes.1) (marks_still array takes.0 takes.2.marks still)
  still_same (body.Datatype type) y takes still = absurd takes

  sound_same : (x y : Body) → BodyTakes i bytes x y → IsSoundBody y
  sound_same (body.Group links) y takes = absurd takes
  sound_same (body.Dataset array) y takes = subst IsSoundBody (sym takes.1) tt
  sound_same (body.Datatype type) y takes = absurd takes

  whole_same : (x y : Body) → BodyTakes i bytes x y → IsKeptBody y
  whole_same (body.Group links) y takes = absurd takes
  whole_same (body.Dataset array) y takes = subst IsKeptBody (sym takes.1) takes.2.whole
  whole_same (body.Datatype type) y takes = absurd takes

  chunks_taken : (f g : List ℕ → List ℕ) (x y : Body) → g ≡ put f i bytes → BodyTakes i bytes x y → AreChunksIn marks.Kept f x → AreChunksIn marks.Kept g y
  chunks_taken f g (body.Group links) y is takes said = absurd takes
  chunks_taken f g (body.Dataset array) y is takes said = subst (λ (z : Body). AreChunksIn marks.Kept g z) (sym takes.1) (subst (λ (h : List ℕ → List ℕ). IsTracked h takes.0) (sym is) (takes.2.tracked f said))
  chunks_taken f g (body.Datatype type) y is takes said = absurd takes

  -- ---- slots

  module _ (id : Id) (s t : Slot) (takes : SlotTakes i bytes s t) where
    entry_same : entry_of t.object ≡ entry_of s.object
    entry_same = both t.object s.object takes.attributes (kept_same s.object.body t.object.body takes.body) where
      both : (a b : Object) → a.attributes ≡ b.attributes → kept_of a.body ≡ kept_of b.body → entry_of a ≡ entry_of b
      both a b attributes kept k = record { attributes = (entry_of (record { attributes = attributes k; body = b.body })).attributes; kept = kept k }

    pub installed_taken : IsInstalled id s → IsInstalled id t
    installed_taken was = record {
      mark = takes.mark ∙ was.mark;
      still = still_same s.object.body t.object.body takes.body was.still;
      kind = record { kind = kind_same s.object.body t.object.body takes.body ∙ was.kind.kind; sound = sound_same s.object.body t.object.body takes.body };
      whole = whole_same s.object.body t.object.body takes.body;
    }

    pub record_taken : (r : Option (List ℕ)) → s.mark ≡ marks.Kept → HasRecord s.mark s.object r → HasRecord t.mark t.object r
    record_taken r mark told = subst (λ (m : Mark). HasRecord m t.object r) (sym (takes.mark ∙ mark)) (
        ap (λ k. option_and_then (object_of_body k) r) (kind_same s.object.body t.object.body takes.body)
        ∙ subst (λ (m : Mark). HasRecord m s.object r) mark told ∙ ap (λ (x : Entry). Some x) (sym entry_same)
        )

    pub chunks_said : (f g : List ℕ → List ℕ) → g ≡ put f i bytes → s.mark ≡ marks.Kept → AreChunksIn s.mark f s.object.body → AreChunksIn t.mark g t.object.body
    chunks_said f g is mark said = subst (λ (m : Mark). AreChunksIn m g t.object.body) (sym (takes.mark ∙ mark))
        (chunks_taken f g s.object.body t.object.body is takes.body (subst (λ (m : Mark). AreChunksIn m f s.object.body) mark said))

-- ---- what the record of a dataset tells

module _ (held : Held) (id : Id) (i bytes : List ℕ) where
  pub grid_told : (o : Object) → id.kind ≡ kinds.Dataset → kind_of_body o.body ≡ id.kind → IsRecordOf (Some o) (get held (object_key id)) → grid_at held id ≡ grid_of (kept_of o.body)
  grid_told o is kind told =
      ap (option_and_then (λ (x : Entry). grid_of x.kept)) (ap (λ k. option_and_then (object_of_body k) (get held (object_key id))) (sym is ∙ sym kind) ∙ told)

  pub chunk_told : (x y : Body) → grid_at held id ≡ grid_of (kept_of x) → BodyTakes i bytes x y → IsChunkRecord held id i bytes
  chunk_told (body.Group links) y told takes = absurd takes
  chunk_told (body.Dataset array) y told takes = record { grid = _; there = told; fits = chunk_of_any array.grid _ i bytes takes.2.chunk }
  chunk_told (body.Datatype type) y told takes = absurd takes

  pub chunk_untold : (x : Body) → kind_of_body x ≡ kinds.Dataset → grid_at held id ≡ grid_of (kept_of x) → NotTaken i bytes x → IsBadChunk held id i bytes
  chunk_untold (body.Group links) kind told refused = absurd (group_no_dataset kind)
  chunk_untold (body.Dataset array) kind told refused = inr (_, told, λ is. refused (chunk_of_its array.grid _ i bytes is))
  chunk_untold (body.Datatype type) kind told refused = absurd (datatype_no_dataset kind)
