-- The creation properties of an array spell its chunk and its fill.
use Rattle.std.proofs.Common.{◌≡◌, ℕ, Bool, true, if◌then◌else◌, List, [], ◌∷◌, map, Option, Some, None, option_map, option_and_then, Result, Ok, Err, codes, refl, sym, ap, subst, ◌∙◌}
use Rattle.std.specs.List.{AllZip}
use Rattle.std.proofs.lemmas.List.{nil_from_length}
use Rattle.serde_json.specs.Data.{Data, object}
use Rattle.serde_json.specs.Find.{get}
use Rattle.serde_json.specs.View.{items_of}
use Rattle.hdf_types.specs.Elems.{Elem}
use Rattle.hdf_types.specs.Reading.{size_of}
use Rattle.hdf_types.specs.Types.{IsSoundType}
use Rattle.shapes.specs.declared.Shape.{Shape}
use Rattle.shapes.specs.declared.Shape.TheVariants.{Null, Scalar, Simple}
use Rattle.shapes.specs.declared.printing.Form.TheVariants.{Rest}
use Rattle.shapes.specs.Extents.{SpellsList}
use Rattle.shapes.specs.Printed.{limit_tree, numbers_tree}
use Rattle.shapes.specs.Shapes.{dims_of}
use Rattle.hdf_values.specs.Elements.{IsEncoded, decoded}
use Rattle.hdf_values.proofs.ElementLemmas.{encoded-fits, list_of-items_of}
use Rattle.hdf_values.proofs.PieceLemmas.{decoded_fits}
use Rattle.chunk_layout.specs.Asked.{IsAnswer, asked_of}
use Rattle.chunk_layout.specs.declared.Layout.{Layout}
use Rattle.chunk_layout.specs.declared.LayoutFault.{LayoutFault}
use Rattle.chunk_layout.specs.Layouts.{Fits, IsWhole as IsWholeNumber}
use Rattle.chunk_layout.proofs.DefaultChunks.HalvingLemmas.{default_only, no_default}
use Rattle.chunk_layout.proofs.LayoutLemmas.{asked_read}
use Rattle.chunk_store.specs.Grids.{Grid, IsWhole, blank_of}
use Rattle.object_acts.specs.Arrays.Creation.{creation_tree, fill_members, layout_members, layout_tree}
use Rattle.object_records.specs.Creations.{chunk_or, creation_in, fill_in, has_no_filter}
use Rattle.object_records.specs.Lists.{no_fault}

-- an answer to what is asked for is the chunk of the definition
pub chunk_answered : (size : ℕ) (dims : List ℕ) (asked : Result (Option (List ℕ)) LayoutFault) (layout : Layout) → IsAnswer dims size asked (Ok layout) → chunk_or size dims asked ≡ Some layout.chunk
chunk_answered size dims (Err fault) layout h = cc
chunk_answered size dims (Ok None) layout h = ap Some (default_only size dims layout.chunk h)
chunk_answered size dims (Ok (Some chunk)) layout h = let same : layout ≡ record { chunk = chunk } = cc in ap (λ (l : Layout). Some l.chunk) (sym same)

-- ---- creation properties

pub numbers_spelled : (ns : List ℕ) → SpellsList IsWholeNumber (numbers_tree Rest ns) ns
numbers_spelled ns = (items_of (map (limit_tree Rest) ns), refl, subst (λ (ds : List Data). AllZip IsWholeNumber ds ns) (sym (list_of-items_of (map (limit_tree Rest) ns))) (each ns))
  where
    each : (ms : List ℕ) → AllZip IsWholeNumber (map (limit_tree Rest) ms) ms
    each [] = tt
    each (m ∷ ms) = (refl, each ms)

abbrev pub tree_of : Elem → Shape → List ℕ → Option (List ℕ) → Data
tree_of e s chunk fill = object (fill_members e fill (layout_members s chunk))

-- where there is no axis nothing is asked for
asked_null : (e : Elem) (chunk : List ℕ) (fill : Option (List ℕ)) → asked_of (tree_of e Null chunk fill) [] (size_of e) ≡ Ok None
unfolding asked_of
asked_null e chunk None = refl
asked_null e chunk (Some bs) = refl

asked_scalar : (e : Elem) (chunk : List ℕ) (fill : Option (List ℕ)) → asked_of (tree_of e Scalar chunk fill) [] (size_of e) ≡ Ok None
unfolding asked_of
asked_scalar e chunk None = refl
asked_scalar e chunk (Some bs) = refl

-- what is asked for
asked_back : (e : Elem) (s : Shape) (chunk : List ℕ) (fill : Option (List ℕ)) → Fits (size_of e) (dims_of s) chunk
    → chunk_or (size_of e) (dims_of s) (asked_of (tree_of e s chunk fill) (dims_of s) (size_of e)) ≡ Some chunk
asked_back e Null chunk fill h = ap (chunk_or (size_of e) []) (asked_null e chunk fill) ∙ ap Some (no_default (size_of e) ∙ sym (nil_from_length chunk h.rank))
asked_back e Scalar chunk fill h = ap (chunk_or (size_of e) []) (asked_scalar e chunk fill) ∙ ap Some (no_default (size_of e) ∙ sym (nil_from_length chunk h.rank))
asked_back e (Simple dims limits) chunk fill h = ap (chunk_or (size_of e) dims) (asks fill)
  where
    asks : (fill : Option (List ℕ)) → asked_of (tree_of e (Simple dims limits) chunk fill) dims (size_of e) ≡ Ok (Some chunk)
    asks None = asked_read _ dims (size_of e) (Some chunk) (_, refl) ((layout_tree chunk, refl, refl, (numbers_tree Rest chunk, refl, numbers_spelled chunk)), h)
    asks (Some bs) = asked_read _ dims (size_of e) (Some chunk) (_, refl) ((layout_tree chunk, refl, refl, (numbers_tree Rest chunk, refl, numbers_spelled chunk)), h)

no_filters : (e : Elem) (s : Shape) (chunk : List ℕ) (fill : Option (List ℕ)) → has_no_filter (get (codes "filters") (tree_of e s chunk fill)) ≡ true
no_filters e Null chunk None = refl
no_filters e Null chunk (Some bs) = refl
no_filters e Scalar chunk None = refl
no_filters e Scalar chunk (Some bs) = refl
no_filters e (Simple dims limits) chunk None = refl
no_filters e (Simple dims limits) chunk (Some bs) = refl

fill_there : (e : Elem) (s : Shape) (chunk : List ℕ) (fill : Option (List ℕ)) → get (codes "fillValue") (tree_of e s chunk fill) ≡ option_map (decoded e) fill
fill_there e Null chunk None = refl
fill_there e Null chunk (Some bs) = refl
fill_there e Scalar chunk None = refl
fill_there e Scalar chunk (Some bs) = refl
fill_there e (Simple dims limits) chunk None = refl
fill_there e (Simple dims limits) chunk (Some bs) = refl

fill_back : (e : Elem) (fill : Option (List ℕ)) → IsSoundType e → IsEncoded e (blank_of e fill) → fill_in e (option_map (decoded e) fill) ≡ Some fill
fill_back e None sound h = refl
fill_back e (Some bs) sound h =
    let fits = decoded_fits e bs sound h in
    ap (λ (r : Result (List ℕ) _). option_map Some (no_fault r)) (encoded-fits e (decoded e bs) fits.0) ∙ ap (λ (xs : List ℕ). Some (Some xs)) fits.1

pub creation_back : (g : Grid) → IsWhole g → Fits (size_of g.kind) (dims_of g.shape) g.chunk → creation_in g.kind g.shape (Some (creation_tree g)) ≡ Some (g.chunk, g.fill)
creation_back g whole fits =
    let chunk = asked_back g.kind g.shape g.chunk g.fill fits in
    let fill = ap (fill_in g.kind) (fill_there g.kind g.shape g.chunk g.fill) ∙ fill_back g.kind g.fill whole.kind whole.blank in
    let both : Option (List ℕ) → Option (Option (List ℕ)) → Option (List ℕ × Option (List ℕ)) = λ c f. option_and_then (λ chunk. option_map (λ fill. (chunk, fill)) f) c in
    ap (λ (b : Bool). if b then both (chunk_or (size_of g.kind) (dims_of g.shape) (asked_of (creation_tree g) (dims_of g.shape) (size_of g.kind))) (fill_in g.kind (get (codes "fillValue") (creation_tree g))) else None) (no_filters g.kind g.shape g.chunk g.fill)
    ∙ ap (λ c. both c (fill_in g.kind (get (codes "fillValue") (creation_tree g)))) chunk
    ∙ ap (both (Some g.chunk)) fill
