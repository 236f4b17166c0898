-- No tree of these parts has a number with a fraction or an exponent.
use Rattle.std.proofs.Common.{◌≡◌, ℕ, zero, suc, ◌*◌, ℤ, pos, negsuc, Bool, true, false, ◌||◌, List, [], ◌∷◌, map, take, drop, Option, Some, None, refl, ap₂}
use Rattle.std.specs.FinMap.{FinMap, entries}
use Rattle.serde_json.specs.Data.{Data, Members}
use Rattle.serde_json.specs.Find.{is_float, of_integer}
use Rattle.serde_json.specs.View.{items_of}
use Rattle.serde_json.specs.Written.{has_float, items_have_float, members_have_float}
use Rattle.containers.specs.TextMaps.Keyed.{text_order}
use Rattle.hdf_types.specs.Elems.{Elem, int, text, compound, FieldList, no_fields, field}
use Rattle.hdf_types.specs.Reading.{size_of}
use Rattle.hdf_types.specs.Printed.{type_tree, fields_trees}
use Rattle.shapes.specs.declared.Shape.{Shape}
use Rattle.shapes.specs.declared.Shape.TheVariants.{Null, Scalar, Simple}
use Rattle.shapes.specs.declared.printing.Form.{Form}
use Rattle.shapes.specs.declared.printing.Form.TheVariants.{Rest, Document}
use Rattle.shapes.specs.RowMajor.{cell_count}
use Rattle.shapes.specs.Printed.{limit_tree, numbers_tree, shape_tree}
use Rattle.hdf_values.specs.declared.attributes.Attribute.{Attribute}
use Rattle.hdf_values.specs.Attributes.{Content, content}
use Rattle.hdf_values.specs.Elements.{decoded, fields_decoded}
use Rattle.hdf_values.specs.Integers.{int_value}
use Rattle.hdf_values.specs.Nested.{nested_decoded, pieces}
use Rattle.hdf_values.specs.Shaped.{value_tree}
use Rattle.attributes.specs.AttributeTrees.{attribute_tree, attributes_list, entry_tree}
use Rattle.groups_links.specs.declared.target.LinkTo.{LinkTo}
use Rattle.groups_links.specs.declared.target.LinkTo.TheVariants.{Hard, Soft, External}
use Rattle.groups_links.specs.Printed.{link_tree, links_list}
use Rattle.chunk_store.specs.Grids.{Grid}
use Rattle.object_acts.specs.Arrays.Creation.{creation_tree, fill_members, layout_members}

-- ---- parts of a tree

pub neither : {a b : Bool} → a ≡ false → b ≡ false → (a || b) ≡ false
neither h k = ap₂ (λ (x y : Bool). x || y) h k

-- a list of trees, one for each of some things
pub list_exact : {A : Type 0} (tree : A → Data) (xs : List A) → ((x : A) → has_float (tree x) ≡ false)
    → items_have_float (items_of (map tree xs)) ≡ false
list_exact tree [] each = refl
list_exact tree (x ∷ xs) each = neither (each x) (list_exact tree xs each)

-- ---- types and shapes

mutual
  pub type_exact : (e : Elem) → has_float (type_tree e) ≡ false
  type_exact (int t) = refl
  type_exact (text t) = refl
  type_exact (compound fs) = neither (fields_exact fs) refl

  fields_exact : (fs : FieldList) → items_have_float (items_of (fields_trees fs)) ≡ false
  fields_exact no_fields = refl
  fields_exact (field n e rest) = neither (neither (type_exact e) refl) (fields_exact rest)

limit_exact : (form : Form) (n : ℕ) → has_float (limit_tree form n) ≡ false
limit_exact Rest n = refl
limit_exact Document zero = refl
limit_exact Document (suc n) = refl

pub numbers_exact : (form : Form) (ns : List ℕ) → has_float (numbers_tree form ns) ≡ false
numbers_exact form ns = list_exact (limit_tree form) ns (limit_exact form)

pub shape_exact : (s : Shape) (form : Form) → has_float (shape_tree s form) ≡ false
shape_exact Null form = refl
shape_exact Scalar form = refl
shape_exact (Simple dims limits) form = neither (numbers_exact Rest dims) (neither (numbers_exact form limits) refl)

-- ---- elements

integer_exact : (z : ℤ) → is_float (of_integer z) ≡ false
integer_exact (pos n) = refl
integer_exact (negsuc n) = refl

mutual
  pub element_exact : (e : Elem) (bs : List ℕ) → has_float (decoded e bs) ≡ false
  element_exact (int t) bs = integer_exact (int_value t bs)
  element_exact (text t) bs = refl
  element_exact (compound fs) bs = parts_exact fs bs

  parts_exact : (fs : FieldList) (bs : List ℕ) → items_have_float (items_of (fields_decoded fs bs)) ≡ false
  parts_exact no_fields bs = refl
  parts_exact (field n e rest) bs = neither (element_exact e (take (size_of e) bs)) (parts_exact rest (drop (size_of e) bs))

pub nested_exact : (e : Elem) (dims bs : List ℕ) → has_float (nested_decoded e dims bs) ≡ false
nested_exact e [] bs = element_exact e bs
nested_exact e (n ∷ ns) bs = list_exact (nested_decoded e ns) (pieces n (cell_count ns * size_of e) bs) (nested_exact e ns)

pub value_exact : (e : Elem) (s : Shape) (bs : List ℕ) → has_float (value_tree e s bs) ≡ false
value_exact e Null bs = refl
value_exact e Scalar bs = element_exact e bs
value_exact e (Simple dims limits) bs = nested_exact e dims bs

-- ---- attributes

pub attribute_exact : (name : List ℕ) (c : Content) (form : Form) (with_value : Bool)
    → has_float (attribute_tree name c form with_value) ≡ false
attribute_exact name c form true =
    neither (shape_exact c.shape form) (neither (type_exact c.kind) (neither (value_exact c.kind c.shape c.bytes) refl))
attribute_exact name c form false = neither (shape_exact c.shape form) (neither (type_exact c.kind) refl)

pub attributes_exact : (m : FinMap text_order Attribute) (form : Form) (with_value : Bool)
    → has_float (attributes_list m form with_value) ≡ false
attributes_exact m form with_value =
    list_exact (entry_tree form with_value) (entries m) (λ e. attribute_exact e.0 (content e.1) form with_value)

-- ---- arrays

layout_exact : (s : Shape) (chunk : List ℕ) → members_have_float (layout_members s chunk) ≡ false
layout_exact Null chunk = refl
layout_exact Scalar chunk = refl
layout_exact (Simple dims limits) chunk = neither (neither (numbers_exact Rest chunk) refl) refl

fill_exact : (e : Elem) (fill : Option (List ℕ)) (rest : Members) → members_have_float rest ≡ false
    → members_have_float (fill_members e fill rest) ≡ false
fill_exact e None rest h = h
fill_exact e (Some bs) rest h = neither (element_exact e bs) h

pub creation_exact : (g : Grid) → has_float (creation_tree g) ≡ false
creation_exact g = fill_exact g.kind g.fill (layout_members g.shape g.chunk) (layout_exact g.shape g.chunk)

-- ---- links

pub link_exact : (title : List ℕ) (link : LinkTo) (form : Form) → has_float (link_tree title link form) ≡ false
link_exact title (Hard id) form = refl
link_exact title (Soft path) form = refl
link_exact title (External path file) form = refl

pub links_exact : (links : FinMap text_order LinkTo) (form : Form) → has_float (links_list links form) ≡ false
links_exact links form = list_exact (λ (e : List ℕ × LinkTo). link_tree e.0 e.1 form) (entries links) (λ e. link_exact e.0 e.1 form)
