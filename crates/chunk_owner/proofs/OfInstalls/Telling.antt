-- Records tell one object.
use Rattle.std.proofs.Common.{◌≡◌, ℕ, List, Option, Some, None, option_and_then, refl, sym, ap, ◌∙◌}
use Rattle.std.specs.FinMap.{get}
use Rattle.std.proofs.lemmas.Option.{none-some, same_Some}
use Rattle.object_ids.specs.IdValues.{Id}
use Rattle.chunk_store.specs.Grids.{Grid, IsWhole}
use Rattle.chunk_store.specs.Marks.{ReadsAs}
use Rattle.object_acts.specs.declared.objects.Object.{Object}
use Rattle.object_acts.specs.declared.objects.Body.{Body}
use Rattle.object_acts.specs.declared.objects.Body.TheVariants as body
use Rattle.object_acts.specs.Objects.{bare, kind_of_body, unmarked, unmarked_body}
use Rattle.flush_journal.specs.Records.{Held}
use Rattle.object_records.specs.Keys.Keys.{object_key}
use Rattle.object_records.specs.Entries.{entry_of}
use Rattle.object_records.specs.Objects.{IsKeptBody, object_of_body}
use Rattle.object_records.specs.Same.{IsSameBody}
use Rattle.chunk_owner.specs.Slots.Slots.{Describes, HasCells, chunks_at}
use Rattle.chunk_owner.specs.Installs.Records.{IsWholeObject}

module _ (attributes : (a b : Object) → entry_of a ≡ entry_of b → a.attributes ≡ b.attributes) (bodies : (a b : Object) → entry_of a ≡ entry_of b → IsSameBody a.body b.body)
    (one : (held : List ℕ → List ℕ) (h k : Grid) → IsWhole h → IsWhole k → k.kind ≡ h.kind → k.shape ≡ h.shape → k.chunk ≡ h.chunk → k.fill ≡ h.fill → ReadsAs held h → ReadsAs held k → k ≡ h) where
  bodies_same : (f : List ℕ → List ℕ) (x y : Body) → IsSameBody x y → IsKeptBody x → IsKeptBody y → HasCells f x → HasCells f y → unmarked_body x ≡ unmarked_body y
  bodies_same f (body.Group l) (body.Group m) same kx ky cx cy = ap body.Group same
  bodies_same f (body.Group l) (body.Dataset b) same kx ky cx cy = absurd same
  bodies_same f (body.Group l) (body.Datatype t) same kx ky cx cy = absurd same
  bodies_same f (body.Dataset a) (body.Group m) same kx ky cx cy = absurd same
  bodies_same f (body.Dataset a) (body.Dataset b) same kx ky cx cy =
      ap (λ (g : Grid). body.Dataset (bare g)) (one f b.grid a.grid ky.0 kx.0 same.kind same.shape same.chunk same.fill cy.0 cx.0)
  bodies_same f (body.Dataset a) (body.Datatype t) same kx ky cx cy = absurd same
  bodies_same f (body.Datatype s) (body.Group m) same kx ky cx cy = absurd same
  bodies_same f (body.Datatype s) (body.Dataset b) same kx ky cx cy = absurd same
  bodies_same f (body.Datatype s) (body.Datatype t) same kx ky cx cy = ap body.Datatype same

  pub tells_one : (held : Held) (id : Id) (a b : Option Object) → IsWholeObject a → IsWholeObject b → Describes held id a → Describes held id b → a ≡ b
  tells_one held id None None wa wb da db = refl
  tells_one held id None (Some y) wa wb da db = absurd (none-some (entry_of y) (ap (option_and_then (object_of_body (kind_of_body y.body))) (sym da.0) ∙ db.1))
  tells_one held id (Some x) None wa wb da db = absurd (none-some (entry_of x) (ap (option_and_then (object_of_body (kind_of_body x.body))) (sym db.0) ∙ da.1))
  tells_one held id (Some x) (Some y) wa wb da db =
      let kinds = da.0 ∙ sym db.0 in
      let told : entry_of x ≡ entry_of y = same_Some (entry_of x) (entry_of y) (sym da.1 ∙ ap (λ k. option_and_then (object_of_body k) (get held (object_key id))) kinds ∙ db.1) in
      ap (λ (o : Object). Some o) (sym wa.1 ∙ same_object x y (attributes x y told) (bodies_same (chunks_at held id) x.body y.body (bodies x y told) wa.0 wb.0 da.2 db.2) ∙ wb.1) where
        same_object : (x y : Object) → x.attributes ≡ y.attributes → unmarked_body x.body ≡ unmarked_body y.body → unmarked x ≡ unmarked y
        same_object x y names bodies k = record { attributes = names k; body = bodies k }
