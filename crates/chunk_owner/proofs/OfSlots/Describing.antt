-- Records of what stands describe it.
use Rattle.std.proofs.Common.{◌≡◌, ◌≢◌, ℕ, [], false, List, Option, Some, option_and_then, refl, sym, ap, subst, ◌∙◌}
use Rattle.std.specs.FinMap.{get}
use Rattle.object_ids.specs.IdValues.{Id}
use Rattle.chunk_store.specs.Grids.{IsWhole}
use Rattle.chunk_store.specs.Marks.{IsChunkOf, IsTracked, ReadsAs, Stored, is_dirty}
use Rattle.object_acts.specs.declared.objects.Object.{Object}
use Rattle.object_acts.specs.declared.objects.Body.{Body}
use Rattle.object_acts.specs.declared.objects.Body.TheVariants as body
use Rattle.object_acts.specs.Objects.{IsOfKind, unmarked, unmarked_body}
use Rattle.flush_journal.specs.Records.{Held}
use Rattle.object_records.specs.Entries.{entry_of, kept_of}
use Rattle.object_records.specs.Objects.{IsKeptBody, object_of_body}
use Rattle.object_records.specs.Keys.Keys.{object_key}
use Rattle.chunk_owner.specs.declared.slots.slot.Mark.{Mark}
use Rattle.chunk_owner.specs.declared.slots.slot.Mark.TheVariants.{Kept}
use Rattle.chunk_owner.specs.declared.slots.slot.Slot.{Slot}
use Rattle.chunk_owner.specs.Slots.Slots.{AreChunksIn, Describes, HasCells, HasRecord, IsRecordOf, IsStill, IsStillBody, Says, chunks_at, object_by, object_of}
use Rattle.chunk_owner.proofs.Eaches.{kind-unmarked}

kept_unmarked : (b : Body) → kept_of (unmarked_body b) ≡ kept_of b
kept_unmarked (body.Group links) = refl
kept_unmarked (body.Dataset array) = refl
kept_unmarked (body.Datatype type) = refl

pub entry_unmarked : (o : Object) → entry_of (unmarked o) ≡ entry_of o
entry_unmarked o k = record { attributes = (entry_of o).attributes; kept = kept_unmarked o.body k }

-- the record of an object is that of the object as requests see it
record_unmarked : (o : Object) (found : Option (List ℕ)) → IsRecordOf (Some o) found → IsRecordOf (Some (unmarked o)) found
record_unmarked o r is = (λ k. option_and_then (object_of_body (kind-unmarked o.body k)) r) ∙ is ∙ ap (λ e. Some e) (sym (entry_unmarked o))

-- records that stand for an array of which no chunk changed give it its cells
module _ (stands : (bodies : List ℕ → List ℕ) (s : Stored) → IsWhole s.grid → IsTracked bodies s → ((i : List ℕ) → is_dirty s i ≡ false) → ReadsAs bodies s.grid)
    (chunks : (bodies : List ℕ → List ℕ) (s : Stored) (i : List ℕ) → IsWhole s.grid → IsTracked bodies s → is_dirty s i ≡ false → bodies i ≢ [] → IsChunkOf s.grid i (bodies i)) where
  cells_of : (b : Body) (f : List ℕ → List ℕ) → IsKeptBody b → IsStillBody b → AreChunksIn Kept f b → HasCells f (unmarked_body b)
  cells_of (body.Group links) f kept still said = tt
  cells_of (body.Dataset array) f kept still said = (stands f array kept.0 said still, λ i some. chunks f array i kept.0 said (still i) some)
  cells_of (body.Datatype type) f kept still said = tt

  pub described : (s : Slot) (id : Id) (held : Held) → IsOfKind id.kind s.object → IsKeptBody s.object.body → IsStill s → Says (Some s) id held → Describes held id (object_of (Some s))
  described s id held of kept still said = subst (λ (m : Mark). Describes held id (object_by m s.object)) (sym still.0) (
    kind-unmarked s.object.body ∙ of.kind,
    record_unmarked s.object (get held (object_key id)) (subst (λ (m : Mark). HasRecord m s.object (get held (object_key id))) still.0 said.0),
    cells_of s.object.body (chunks_at held id) kept still.1 (subst (λ (m : Mark). AreChunksIn m (chunks_at held id) s.object.body) still.0 said.1),
  )
