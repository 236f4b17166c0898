-- The tree of an object spells what is kept of it.
use Rattle.std.proofs.Common.{◌≡◌, ℕ, ◌≤◌, List, map, Bool, true, Option, Some, None, option_map, option_and_then, Result, codes, if◌then◌else◌, refl, sym, ap, subst, ◌∙◌, arith}
use Rattle.std.specs.FinMap.{FinMap, empty, entries}
use Rattle.std.specs.List.{AllZip}
use Rattle.std.proofs.lemmas.Cmp.{nat_list_cmp_total}
use Rattle.std.proofs.lemmas.List.{map-id}
use Rattle.serde_json.specs.Data.{Data, depth, object, string}
use Rattle.serde_json.specs.Find.{as_str}
use Rattle.serde_json.specs.Find.{get as member_of}
use Rattle.serde_json.specs.Read.{max_depth}
use Rattle.object_ids.specs.Names.{is_name}
use Rattle.containers.specs.TextMaps.Keyed.{text_order, with_values}
use Rattle.containers.proofs.TextMaps.ValueMaps.{entries-values, len-values}
use Rattle.hdf_types.specs.Elems.{Elem}
use Rattle.hdf_types.specs.Printed.{type_tree}
use Rattle.hdf_types.specs.Reading.{size_of, type_of}
use Rattle.hdf_types.specs.Types.{IsSoundType}
use Rattle.hdf_types.specs.Views.{elem}
use Rattle.hdf_types.proofs.PrintLemmas as types
use Rattle.shapes.specs.Printed.{shape_tree}
use Rattle.shapes.specs.Shapes.{dims_of, shape_of}
use Rattle.shapes.specs.declared.Shape.{Shape}
use Rattle.shapes.specs.declared.ShapeFault.{ShapeFault}
use Rattle.shapes.specs.declared.Shape.TheVariants.{Null, Scalar, Simple}
use Rattle.shapes.specs.declared.printing.Form.TheVariants.{Document, Rest}
use Rattle.shapes.proofs.ShapeLemmas as shapes
use Rattle.hdf_values.specs.Attributes.{Content, IsSoundAttribute, content}
use Rattle.hdf_values.specs.declared.attributes.Attribute.{Attribute}
use Rattle.hdf_values.proofs.AttributeLemmas.{printed_back}
use Rattle.hdf_values.proofs.ElementLemmas.{list_of-items_of}
use Rattle.attributes.specs.AttributeMaps.{AreAttributes, longest_name, most_attributes}
use Rattle.attributes.specs.AttributeTrees.{attribute_tree, attributes_list, entry_tree}
use Rattle.attributes.proofs.MapLemmas.{each_entry}
use Rattle.groups_links.specs.GroupLinks.{AreLinks, most_links}
use Rattle.groups_links.specs.Printed.{link_tree, links_list}
use Rattle.groups_links.specs.Targets.{IsSoundLink, link_in}
use Rattle.groups_links.specs.Titles.{IsGoodTitle, most_of_title}
use Rattle.groups_links.specs.declared.target.LinkTo.{LinkTo}
use Rattle.groups_links.specs.declared.target.LinkTo.TheVariants.{Hard, Soft, External}
use Rattle.groups_links.proofs.LinkLemmas as links
use Rattle.hdf_values.proofs.OfKept.TreeLemmas.{element_deep}
use Rattle.object_acts.proofs.OfDepths.Depths.{attributes_deep, links_deep, numbers_deep, shape_deep, sound_shallow, type_deep}
use Rattle.chunk_layout.specs.Layouts.{Fits}
use Rattle.chunk_store.specs.Grids.{Grid, IsWhole}
use Rattle.object_acts.specs.Arrays.Creation.{creation_tree}
use Rattle.object_records.specs.Creations.{creation_in}
use Rattle.object_acts.specs.Arrays.Creation.{fill_members, layout_members}
use Rattle.object_acts.specs.Objects.{kind_of_body}
use Rattle.object_acts.specs.declared.objects.Object.{Object}
use Rattle.object_acts.specs.declared.objects.Body.{Body}
use Rattle.object_acts.specs.declared.objects.Body.TheVariants.{Group, Dataset, Datatype}
use Rattle.object_records.specs.Entries.{Entry, Kept, Names, dataset, datatype, entry_of, group, kept_of}
use Rattle.object_records.specs.Lists.{attribute_in, attributes_in, links_in, listed, name_at, no_fault, titled_in}
use Rattle.object_records.specs.Objects.{IsKeptBody, body_tree, dataset_in, dataset_tree, kept_in, object_in, object_tree, spelled_in}
use Rattle.object_records.proofs.CreationLemmas.{creation_back}
use Rattle.object_records.proofs.ListLemmas.{list_back, zip_of}
use Rattle.object_records.proofs.ReadLemmas.{attribute_read, title_read}

-- ---- attributes

attribute_back : (name : List ℕ) (c : Content) → is_name longest_name name ≡ true → IsSoundAttribute c → attribute_in (attribute_tree name c Document true) ≡ Some (name, c)
attribute_back name c short sound =
    attribute_read (attribute_tree name c Document true) name c (ap (λ (b : Bool). if b then Some name else None) short)
    (printed_back (attribute_tree name c Document true) c Document sound refl refl refl)

abbrev with_content : List ℕ × Attribute → List ℕ × Content
with_content e = (e.0, content e.1)

pub attributes_back : (m : FinMap text_order Attribute) → AreAttributes m → attributes_in (Some (attributes_list m Document true)) ≡ Some (with_values content m)
attributes_back m held =
    let trees = map (entry_tree Document true) (entries m) in
    let each = each_entry (λ name a. attribute_in (attribute_tree name (content a) Document true) ≡ Some (name, content a)) m
    (λ name a e. attribute_back name (content a) (held.named name a e) (held.sound name a e)) in
    let zip = subst (λ (es : List (List ℕ × Content)). AllZip (λ d e. attribute_in d ≡ Some e) trees es) (sym (entries-values nat_list_cmp_total content m))
    (zip_of (entry_tree Document true) with_content attribute_in (entries m) each) in
    ap (listed most_attributes attribute_in empty) (list_of-items_of trees)
    ∙ list_back most_attributes attribute_in (with_values content m) trees zip (omega (arith, held.few, len-values nat_list_cmp_total content m))

-- ---- links

titled : (title : List ℕ) (link : LinkTo) → member_of (codes "title") (link_tree title link Document) ≡ Some (string title)
titled title (Hard id) = refl
titled title (Soft path) = refl
titled title (External path file) = refl

link_back : (title : List ℕ) (link : LinkTo) → IsGoodTitle title → is_name most_of_title title ≡ true → IsSoundLink link → titled_in (link_tree title link Document) ≡ Some (title, link)
link_back title link good short sound =
    let d = link_tree title link Document in
    let name : name_at (codes "title") most_of_title d ≡ Some title =
    ap (λ (o : Option Data). option_and_then (λ (t : List ℕ). if is_name most_of_title t then Some t else None) (option_and_then as_str o)) (titled title link)
    ∙ ap (λ (b : Bool). if b then Some title else None) short in
    ap (option_and_then (λ (t : List ℕ). option_map (λ link. (t, link)) (link_in d))) (title_read (name_at (codes "title") most_of_title d) title name good)
    ∙ ap (option_map (λ link. (title, link))) (links.printed_back title link Document sound)

pub links_back : (m : FinMap text_order LinkTo) → AreLinks m → links_in (Some (links_list m Document)) ≡ Some m
links_back m held =
    let tree : List ℕ × LinkTo → Data = λ e. link_tree e.0 e.1 Document in
    let trees = map tree (entries m) in
    let each = each_entry (λ title link. titled_in (link_tree title link Document) ≡ Some (title, link)) m
    (λ title link e. link_back title link (held.titled title link e) (held.named title link e) (held.sound title link e)) in
    let zip = subst (λ (es : List (List ℕ × LinkTo)). AllZip (λ d e. titled_in d ≡ Some e) trees es) (map-id (entries m))
    (zip_of tree (λ e. e) titled_in (entries m) each) in
    ap (listed most_links titled_in empty) (list_of-items_of trees) ∙ list_back most_links titled_in m trees zip held.few

-- ---- types and datasets

pub type_back : (e : Elem) → IsSoundType e → no_fault (type_of (type_tree e)) ≡ Some e
type_back e sound = ap no_fault (types.reads_back e (type_tree e) sound refl)

pub dataset_back : (attributes : Data) (g : Grid) → IsWhole g → Fits (size_of g.kind) (dims_of g.shape) g.chunk
    → dataset_in (dataset_tree attributes (creation_tree g) (shape_tree g.shape Document) (type_tree g.kind)) ≡ Some (dataset g.kind g.shape g.chunk g.fill)
dataset_back attributes g whole fits =
    let d = dataset_tree attributes (creation_tree g) (shape_tree g.shape Document) (type_tree g.kind) in
    let shaped : Elem → Option Shape → Option Kept = λ e o. option_and_then (λ s. option_map (λ p. dataset e s p.0 p.1) (creation_in e s (Some (creation_tree g)))) o in
    ap (option_and_then (λ (e : Elem). shaped e (no_fault (shape_of (Some (shape_tree g.shape Document)) None)))) (type_back g.kind whole.kind)
    ∙ ap (λ (r : Result Shape ShapeFault). shaped g.kind (no_fault r)) (shapes.reads_back g.shape Document (shape_tree g.shape Document) whole.shape refl)
    ∙ ap (option_map (λ p. dataset g.kind g.shape p.0 p.1)) (creation_back g whole fits)

-- ---- objects

kept_back : (attributes : Data) (b : Body) → IsKeptBody b → kept_in (kind_of_body b) (body_tree attributes b) ≡ Some (kept_of b)
kept_back attributes (Group links) h = ap (option_map group) (links_back links h)
kept_back attributes (Dataset array) h = dataset_back attributes array.grid h.0 h.1
kept_back attributes (Datatype type) h = ap (option_map datatype) (type_back (elem type) h)

-- each body's tree is an object, with the attributes at their key
is_spelled : (attributes : Data) (b : Body) → spelled_in (kind_of_body b) (body_tree attributes b) ≡ object_in (kind_of_body b) (body_tree attributes b)
is_spelled attributes (Group links) = refl
is_spelled attributes (Dataset array) = refl
is_spelled attributes (Datatype type) = refl

attributes_there : (attributes : Data) (b : Body) → member_of (codes "attributes") (body_tree attributes b) ≡ Some attributes
attributes_there attributes (Group links) = refl
attributes_there attributes (Dataset array) = refl
attributes_there attributes (Datatype type) = refl

-- the tree of an object spells what is kept of it
pub object_back : (o : Object) → AreAttributes o.attributes → IsKeptBody o.body → spelled_in (kind_of_body o.body) (object_tree o) ≡ Some (entry_of o)
object_back o names body =
    let list = attributes_list o.attributes Document true in
    let k = kind_of_body o.body in
    let both : Option Names → Option Kept → Option Entry = λ a b. option_and_then (λ attributes. option_map (λ kept. record { attributes = attributes; kept = kept }) b) a in
    is_spelled list o.body
    ∙ ap (λ (a : Option Names). both a (kept_in k (object_tree o))) (ap attributes_in (attributes_there list o.body) ∙ attributes_back o.attributes names)
    ∙ ap (both (Some (with_values content o.attributes))) (kept_back list o.body body)

-- ---- depths

pub names_depth : (m : FinMap text_order Attribute) → AreAttributes m → depth (attributes_list m Document true) ≤ 38
names_depth m held = attributes_deep m Document true (λ name a e.
    let sound = held.sound name a e in
    sound_shallow (elem a.elem) a.shape sound.kind sound.shape)

pub properties_depth : (e : Elem) (s : Shape) (chunk : List ℕ) (fill : Option (List ℕ)) → IsSoundType e → depth (object (fill_members e fill (layout_members s chunk))) ≤ 5
properties_depth e Null chunk None sound = omega arith
properties_depth e Null chunk (Some bs) sound = omega (arith, element_deep e bs, sound.nested)
properties_depth e Scalar chunk None sound = omega arith
properties_depth e Scalar chunk (Some bs) sound = omega (arith, element_deep e bs, sound.nested)
properties_depth e (Simple dims limits) chunk None sound = omega (arith, numbers_deep Rest chunk)
properties_depth e (Simple dims limits) chunk (Some bs) sound = omega (arith, element_deep e bs, sound.nested, numbers_deep Rest chunk)

body_depth : (attributes : Data) (b : Body) → depth attributes ≤ 38 → IsKeptBody b → depth (body_tree attributes b) ≤ 39
body_depth attributes (Group links) few h = omega (arith, few, links_deep links Document)
body_depth attributes (Dataset array) few h =
    omega (arith, few, properties_depth array.grid.kind array.grid.shape array.grid.chunk array.grid.fill h.0.kind, shape_deep array.grid.shape Document, type_deep array.grid.kind, h.0.kind.nested)
body_depth attributes (Datatype type) few h = omega (arith, few, type_deep (elem type), h.nested)

pub object_depth : (o : Object) → AreAttributes o.attributes → IsKeptBody o.body → depth (object_tree o) ≤ max_depth
object_depth o names body = omega (arith, body_depth (attributes_list o.attributes Document true) o.body (names_depth o.attributes names) body)
