-- How deep the document of a domain nests.
use Rattle.std.proofs.Common.{◌≡◌, ◌≤◌, ◌==◌, ℕ, Bool, true, false, cond, List, [], ◌∷◌, Some, Ordering, Less, Equal, Greater, refl, ◌∙◌, arith}
use Rattle.std.specs.List.{AllByRecursion, filter}
use Rattle.std.specs.Ordering.{match_ordering}
use Rattle.std.specs.FinMap.{entries, entries_sorted, find, get-entries}
use Rattle.std.proofs.lemmas.Bool.{and_parts, eqb-true}
use Rattle.serde_json.specs.Data.{Data, Members, depth, member, members_depth, no_members, put}
use Rattle.serde_json.specs.Read.{max_depth}
use Rattle.containers.specs.TextMaps.Keyed.{text_order}
use Rattle.object_ids.specs.IdOrder.{id_order, kind_rank}
use Rattle.object_ids.specs.IdValues.{Id}
use Rattle.object_ids.specs.Ids.{text_of_id}
use Rattle.object_ids.specs.declared.ids.Kind.{Kind}
use Rattle.object_ids.specs.declared.ids.Kind.TheVariants.{Group as GroupKind, Dataset as DatasetKind, Datatype as DatatypeKind}
use Rattle.hdf_types.specs.Views.{elem}
use Rattle.shapes.specs.Shapes.{cells_of}
use Rattle.shapes.specs.declared.printing.Form.TheVariants.{Document}
use Rattle.attributes.specs.AttributeMaps.{AreAttributes, AttributeMap}
use Rattle.attributes.specs.AttributeTrees.{attributes_list}
use Rattle.chunk_store.specs.Grids.{reads}
use Rattle.object_acts.specs.Objects.{empty_group, Objects}
use Rattle.object_acts.specs.declared.objects.Object.{Object}
use Rattle.object_acts.specs.declared.objects.Body.{Body}
use Rattle.object_acts.specs.declared.objects.Body.TheVariants.{Group, Dataset, Datatype}
use Rattle.object_records.specs.Objects.{IsKeptBody}
use Rattle.hdf_values.proofs.OfKept.TreeLemmas.{each_deep}
use Rattle.object_acts.proofs.OfDepths.Depths.{link_deep, shape_deep, sound_shallow, type_deep, value_deep}
use Rattle.documents.specs.Domains.Documents.{collection_tree, document_tree, is_of, put_each, put_one}
use Rattle.documents.specs.Domains.Entries.{body_tree, entry_tree, is_shown, titled_tree}
use Rattle.documents.specs.declared.domains.home.Home.{Home}
use Rattle.documents.proofs.OfDomains.MemberLemmas.{all_within}
use Rattle.json_import.specs.RoundTrips.Loaded.{AreSound}
use Rattle.json_import.proofs.RoundTrips.LoadedLemmas.{no_attributes, no_links}
use Rattle.object_records.proofs.TreeLemmas.{names_depth, properties_depth}

entry_deep : (m : Objects) (h : Home) (attributes : AttributeMap) (b : Body) → AreAttributes attributes → IsKeptBody b
    → depth (body_tree m h (attributes_list attributes Document true) b) ≤ 39
entry_deep m h attributes (Group links) held parts =
    omega (arith, names_depth attributes held, each_deep 1 titled_tree (filter (λ e. is_shown m h e.1) (entries links)) (λ e. link_deep e.0 e.1 Document))
entry_deep m h attributes (Dataset array) held parts =
    let g = array.grid in
    let shallow = sound_shallow g.kind g.shape parts.0.kind parts.0.shape in
    omega (arith, names_depth attributes held, properties_depth g.kind g.shape g.chunk g.fill parts.0.kind, shape_deep g.shape Document, type_deep g.kind, shallow.nested, shallow.few_axes, value_deep g.kind g.shape (reads g (cells_of g.shape)))
entry_deep m h attributes (Datatype type) held parts = omega (arith, names_depth attributes held, type_deep (elem type), parts.nested)

put_deep : (n : ℕ) (key : List ℕ) (d : Data) (ms : Members) → depth d ≤ n → members_depth ms ≤ n → members_depth (put key d ms) ≤ n
put_deep n key d no_members one rest = omega (arith, one)
put_deep n key d (member l e ms) one rest = at (text_order key l) (put_deep n key d ms one (omega (arith, rest))) where
  at : (o : Ordering) → members_depth (put key d ms) ≤ n
      → members_depth (match_ordering o (member key d (member l e ms)) (member l d ms) (member l e (put key d ms))) ≤ n
  at Less later = omega (arith, one, rest)
  at Equal later = omega (arith, one, rest)
  at Greater later = omega (arith, later, rest)

module _ (m : Objects) (h : Home) (are : AreSound m h) (k : Kind) where
  one_deep : (id : Id) (o : Object) → (is_of k h id ≡ true → depth (entry_tree m h o) ≤ 39) → (ms : Members) → members_depth ms ≤ 39
      → members_depth (put_one m h k (id, o) ms) ≤ 39
  one_deep id o low ms rest = at (is_of k h id) refl where
    at : (b : Bool) → is_of k h id ≡ b → members_depth (cond b (put (text_of_id id) (entry_tree m h o) ms) ms) ≤ 39
    at true is = put_deep 39 (text_of_id id) (entry_tree m h o) ms (low is) rest
    at false is = rest

  all_deep : (es : List (Id × Object)) → AllByRecursion (λ e. find id_order e.0 (entries m) ≡ Some e.1) es → (ms : Members)
      → members_depth ms ≤ 39 → members_depth (put_each m h k es ms) ≤ 39
  all_deep [] within ms rest = rest
  all_deep (e ∷ es) within ms rest =
      all_deep es within.1 (put_one m h k e ms) (one_deep e.0 e.1 (λ is.
      let sound = are.each e.0 e.1 (get-entries m e.0 ∙ within.0) (eqb-true e.0.domain h.number (and_parts (kind_rank e.0.kind == kind_rank k) (e.0.domain == h.number) is).1) in
      entry_deep m h e.1.attributes e.1.body sound.attributes sound.parts) ms rest)

  collection_deep : depth (collection_tree m h k) ≤ 40
  collection_deep =
      let first = one_deep h.root empty_group (λ is. entry_deep m h empty_group.attributes empty_group.body no_attributes no_links) no_members (omega arith) in
      let all = all_deep (entries m) (all_within (λ i. true) (entry_tree m h) (entries m) (entries_sorted m)) (put_one m h k (h.root, empty_group) no_members) first in
      omega (arith, all)

pub document_deep : (m : Objects) (h : Home) → AreSound m h → depth (document_tree m h) ≤ max_depth
document_deep m h are = omega (arith, collection_deep m h are DatasetKind, collection_deep m h are DatatypeKind, collection_deep m h are GroupKind)
