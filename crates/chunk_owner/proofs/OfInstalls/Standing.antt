-- Records that describe objects can stand.
use Rattle.std.proofs.Common.{◌≡◌, ◌≢◌, ℕ, ◌<◌, cond, List, [], length, Option, Some, None, option_and_then, refl, sym, ap, subst, ◌∙◌, arith}
use Rattle.std.specs.FinMap.{get}
use Rattle.std.specs.Option.{option_map_or}
use Rattle.std.proofs.lemmas.Option.{none-some}
use Rattle.flush_journal.specs.Records.{Held}
use Rattle.object_ids.specs.IdValues.{Id}
use Rattle.object_ids.specs.declared.ids.Kind.TheVariants as kinds
use Rattle.chunk_store.specs.Marks.{IsChunkOf}
use Rattle.object_acts.specs.declared.objects.Body.{Body}
use Rattle.object_acts.specs.declared.objects.Body.TheVariants as body
use Rattle.object_acts.specs.declared.objects.Object.{Object}
use Rattle.object_acts.specs.Objects.{kind_of_body}
use Rattle.object_records.specs.Keys.Keys.{IsChunk, chunk_key, object_key}
use Rattle.object_records.specs.Keys.Keys.{the_run, node, object, chunk, next_number}
use Rattle.object_records.specs.Entries.{entry_of, kept_of}
use Rattle.object_records.specs.Objects.{object_of_body}
use Rattle.chunk_owner.specs.Slots.Slots.{Describes, HasCells, chunks_at}
use Rattle.chunk_owner.proofs.OfSlots.KeyFacts.{numbers_index}
use Rattle.chunk_owner.specs.Installs.Records.{AreHeld, AreSound, IsChunkRecord, IsFault, IsObjectRecord, grid_at, grid_of}
use Rattle.chunk_owner.proofs.OfInstalls.LaneKeys.{datatype_no_dataset, group_no_dataset}
use Rattle.chunk_owner.proofs.OfInstalls.Taking.{chunk_of_any, grid_told}
use Rattle.chunk_owner.proofs.OfInstalls.Walking.{not_both}

some_byte : (bytes : List ℕ) → 0 < length bytes → bytes ≢ []
some_byte bytes some none = absurd (let e = ap (λ (b : List ℕ). length b) none in omega (arith, e, some))

chunk_stands : (held : Held) (id : Id) (i bytes : List ℕ) (f : List ℕ → List ℕ) (x : Body) → f i ≡ bytes → bytes ≢ [] → kind_of_body x ≡ kinds.Dataset → grid_at held id ≡ grid_of (kept_of x) → HasCells f x
    → IsChunkRecord held id i bytes
chunk_stands held id i bytes f (body.Group links) here some kind told cells = absurd (group_no_dataset kind)
chunk_stands held id i bytes f (body.Dataset array) here some kind told cells = record {
  grid = _;
  there = told;
  fits = chunk_of_any array.grid _ i bytes (subst (λ (b : List ℕ). IsChunkOf array.grid i b) here (cells.1 i (λ none. some (sym here ∙ none))));
}
chunk_stands held id i bytes f (body.Datatype type) here some kind told cells = absurd (datatype_no_dataset kind)

module _ (lanes lane run next : ℕ) (held : Held) (objects : Id → Option Object) (h : AreHeld lanes lane run next held objects) where
  object_at : (id : Id) (bytes : List ℕ) (o : Option Object) → objects id ≡ o → Describes held id o → get held (object_key id) ≡ Some bytes → IsObjectRecord run next id bytes
  object_at id bytes None there told found = absurd (none-some bytes (sym told.0 ∙ found))
  object_at id bytes (Some o) there told found = record {
    made = (h.given id o there).0;
    number = (h.given id o there).1;
    entry = entry_of o;
    reads = ap (λ k. object_of_body k bytes) (sym told.0) ∙ ap (option_and_then (object_of_body (kind_of_body o.body))) (sym found) ∙ told.1;
  }

  chunk_at : (id : Id) (i bytes : List ℕ) (o : Option Object) → IsChunk id i → Describes held id o → get held (chunk_key id i) ≡ Some bytes → chunks_at held id i ≡ bytes → IsChunkRecord held id i bytes
  chunk_at id i bytes None is told found here = absurd (some_byte bytes (h.bodies (chunk_key id i) bytes found).1 (sym here ∙ told.1 is.kind i))
  chunk_at id i bytes (Some o) is told found here = chunk_stands held id i bytes (chunks_at held id) o.body here (some_byte bytes (h.bodies (chunk_key id i) bytes found).1) (told.0 ∙ is.kind)
      (grid_told held id i bytes o is.kind told.0 told.1) told.2

  pub kept_sound : AreSound lanes lane run next held
  kept_sound the_run b is own found = tt
  kept_sound (node path) b is own found = tt
  kept_sound (object id) b is own found = object_at id b (objects id) refl (h.described id is own) found
  kept_sound (chunk id i) b is own found = chunk_at id i b (objects id) is (h.described id is.id own) found (
      ap (λ x. cond x (option_map_or (λ body. body) (get held (chunk_key id i)) []) []) (numbers_index i is.numbers) ∙ ap (λ (o : Option (List ℕ)). option_map_or (λ body. body) o []) found
      )
  kept_sound next_number b is own found = tt

  pub kept_faultless : (key : List ℕ) → IsFault lanes lane run next held key → ⊥
  kept_faultless key f = not_both run next held f.subject f.body (kept_sound f.subject f.body f.is f.own (ap (get held) f.of ∙ f.here)) f.bad
