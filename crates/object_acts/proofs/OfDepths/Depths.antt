-- How deep trees nest.
use Rattle.std.proofs.Common.{ℕ, zero, suc, ◌+◌, ◌*◌, ◌≤◌, Bool, true, false, List, [], ◌∷◌, map, length, arith}
use Rattle.std.specs.FinMap.{FinMap, entries}
use Rattle.std.specs.List.{AllByRecursion}
use Rattle.serde_json.specs.Data.{Data, depth, items_depth}
use Rattle.serde_json.specs.View.{items_of}
use Rattle.containers.specs.TextMaps.Keyed.{text_order}
use Rattle.hdf_types.specs.Elems.{Elem, int, text, compound, FieldList, no_fields, field, fields_depth}
use Rattle.hdf_types.specs.Elems.{depth as nesting}
use Rattle.hdf_types.specs.Printed.{type_tree, fields_trees}
use Rattle.hdf_types.specs.Types.{IsSoundType}
use Rattle.shapes.specs.declared.Shape.{Shape}
use Rattle.shapes.specs.declared.Shape.TheVariants.{Null, Scalar, Simple}
use Rattle.shapes.specs.declared.printing.Form.{Form}
use Rattle.shapes.specs.declared.printing.Form.TheVariants.{Rest, Document}
use Rattle.shapes.specs.Printed.{limit_tree, numbers_tree, shape_tree}
use Rattle.shapes.specs.Shapes.{IsSound, dims_of}
use Rattle.hdf_values.specs.Attributes.{Content, content}
use Rattle.hdf_values.specs.declared.attributes.Attribute.{Attribute}
use Rattle.hdf_values.specs.Shaped.{value_tree}
use Rattle.hdf_values.proofs.OfKept.TreeLemmas.{each_deep, element_deep, nested_deep}
use Rattle.attributes.specs.AttributeTrees.{attribute_tree, attributes_list, entry_tree}
use Rattle.attributes.proofs.MapLemmas.{each_entry}
use Rattle.groups_links.specs.declared.target.LinkTo.{LinkTo}
use Rattle.groups_links.specs.declared.target.LinkTo.TheVariants.{Hard, Soft, External}
use Rattle.groups_links.specs.Printed.{link_tree, links_list}
use Rattle.object_acts.specs.Depths.Shallow.{AreShallowAttributes, IsShallow}
use Rattle.shapes.proofs.ShapeLemmas.{few_dims}

-- ---- lists

pub these_deep : {A : Type 0} (k : ℕ) (f : A → Data) (xs : List A) → AllByRecursion (λ x. depth (f x) ≤ k) xs
    → items_depth (items_of (map f xs)) ≤ k
these_deep k f [] low = omega arith
these_deep k f (x ∷ xs) low = omega (arith, low.0, these_deep k f xs low.1)

-- ---- types and elements

mutual
  pub type_deep : (e : Elem) → depth (type_tree e) ≤ 3 * nesting e + 1
  type_deep (int t) = omega arith
  type_deep (text t) = omega arith
  type_deep (compound fs) = omega (arith, fields_deep fs)

  fields_deep : (fs : FieldList) → items_depth (items_of (fields_trees fs)) ≤ 3 * fields_depth fs + 2
  fields_deep no_fields = omega arith
  fields_deep (field n e rest) = omega (arith, type_deep e, fields_deep rest)

pub value_deep : (e : Elem) (s : Shape) (bs : List ℕ) → depth (value_tree e s bs) ≤ length (dims_of s) + nesting e
value_deep e Null bs = omega arith
value_deep e Scalar bs = omega (arith, element_deep e bs)
value_deep e (Simple dims limits) bs = nested_deep e dims bs

-- ---- shapes

pub sound_shallow : (e : Elem) (s : Shape) → IsSoundType e → IsSound s → IsShallow e s
sound_shallow e s kind shape = record { nested = kind.nested; few_axes = few_dims s shape }

limit_deep : (form : Form) (n : ℕ) → depth (limit_tree form n) ≤ 0
limit_deep Rest n = omega arith
limit_deep Document zero = omega arith
limit_deep Document (suc n) = omega arith

pub numbers_deep : (form : Form) (ns : List ℕ) → depth (numbers_tree form ns) ≤ 1
numbers_deep form ns = omega (arith, each_deep 0 (limit_tree form) ns (limit_deep form))

pub shape_deep : (s : Shape) (form : Form) → depth (shape_tree s form) ≤ 2
shape_deep Null form = omega arith
shape_deep Scalar form = omega arith
shape_deep (Simple dims limits) form = omega (arith, numbers_deep Rest dims, numbers_deep form limits)

-- ---- attributes and links

pub attribute_deep : (name : List ℕ) (c : Content) (form : Form) (with_value : Bool) → IsShallow c.kind c.shape → depth (attribute_tree name c form with_value) ≤ 37
attribute_deep name c form true h = omega (arith, shape_deep c.shape form, type_deep c.kind, value_deep c.kind c.shape c.bytes, h.nested, h.few_axes)
attribute_deep name c form false h = omega (arith, shape_deep c.shape form, type_deep c.kind, h.nested)

pub attributes_deep : (m : FinMap text_order Attribute) (form : Form) (with_value : Bool) → AreShallowAttributes m → depth (attributes_list m form with_value) ≤ 38
attributes_deep m form with_value held =
    let each = each_entry (λ (name : List ℕ) (a : Attribute). depth (attribute_tree name (content a) form with_value) ≤ 37) m
    (λ name a e. attribute_deep name (content a) form with_value (held name a e)) in
    omega (arith, these_deep 37 (entry_tree form with_value) (entries m) each)

pub link_deep : (title : List ℕ) (link : LinkTo) (form : Form) → depth (link_tree title link form) ≤ 1
link_deep title (Hard id) form = omega arith
link_deep title (Soft path) form = omega arith
link_deep title (External path file) form = omega arith

pub links_deep : (links : FinMap text_order LinkTo) (form : Form) → depth (links_list links form) ≤ 2
links_deep links form =
    omega (arith, each_deep 1 (λ (e : List ℕ × LinkTo). link_tree e.0 e.1 form) (entries links) (λ e. link_deep e.0 e.1 form))
