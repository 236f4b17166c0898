-- The trees of elements' bytes: how deep they nest, and that their texts are UTF-8.
use Rattle.std.proofs.Common.{◌≡◌, ℕ, ◌+◌, ◌*◌, ◌≤◌, ℤ, Bool, true, false, if◌then◌else◌, List, [], ◌∷◌, length, map, take, drop, Option, Some, None, sym, subst, arith}
use Rattle.std.specs.List.{AllByRecursion}
use Rattle.std.specs.Str.{is_utf8}
use Rattle.serde_json.specs.Data.{Data, null, boolean, number, string, array, object, Items, no_items, item, depth, items_depth}
use Rattle.serde_json.specs.Read.{read}
use Rattle.serde_json.specs.View.{items_of}
use Rattle.json_trees.specs.Trees.{AreTexts, AreItemTexts, list_of, tree_in}
use Rattle.hdf_types.specs.Elems.{Elem, int, text, compound, FieldList, no_fields, field, fields_depth}
use Rattle.hdf_types.specs.Elems.{depth as nesting}
use Rattle.hdf_types.specs.Reading.{size_of}
use Rattle.shapes.specs.RowMajor.{cell_count}
use Rattle.hdf_values.specs.Elements.{Fits, FitFields, decoded, fields_decoded}
use Rattle.hdf_values.specs.Integers.{integer_in}
use Rattle.hdf_values.specs.Nested.{FitsNested, nested_decoded, pieces}

-- ---- how deep they nest

-- the trees of a list, each no deeper than this
pub each_deep : {A : Type 0} (k : ℕ) (f : A → Data) (xs : List A) → ((x : A) → depth (f x) ≤ k) → items_depth (items_of (map f xs)) ≤ k
each_deep k f [] low = omega arith
each_deep k f (x ∷ xs) low = omega (arith, low x, each_deep k f xs low)

mutual
  pub element_deep : (e : Elem) (bs : List ℕ) → depth (decoded e bs) ≤ nesting e
  element_deep (int t) bs = omega arith
  element_deep (text t) bs = omega arith
  element_deep (compound fs) bs = omega (arith, parts_deep fs bs)

  parts_deep : (fs : FieldList) (bs : List ℕ) → items_depth (items_of (fields_decoded fs bs)) ≤ fields_depth fs
  parts_deep no_fields bs = omega arith
  parts_deep (field n e rest) bs = omega (arith, element_deep e (take (size_of e) bs), parts_deep rest (drop (size_of e) bs))

pub nested_deep : (e : Elem) (dims bs : List ℕ) → depth (nested_decoded e dims bs) ≤ length dims + nesting e
nested_deep e [] bs = omega (arith, element_deep e bs)
nested_deep e (n ∷ ns) bs =
    let rows = pieces n (cell_count ns * size_of e) bs in
    omega (arith, each_deep (length ns + nesting e) (nested_decoded e ns) rows (nested_deep e ns))

-- ---- their texts

number_texts : (d : Data) (z : ℤ) → integer_in d ≡ Some z → AreTexts d
number_texts null z h = tt
number_texts (boolean b) z h = tt
number_texts (number n) z h = tt
number_texts (string s) z h = absurd cc
number_texts (array ds) z h = absurd cc
number_texts (object ms) z h = tt

mutual
  value_texts : (e : Elem) (d : Data) → Fits e d → AreTexts d
  value_texts (int t) d h = number_texts d h.0 h.1
  value_texts (text t) d h = subst AreTexts (sym h.1) h.2
  value_texts (compound fs) d h = subst AreTexts (sym h.1) (parts_texts fs h.0 h.2)

  parts_texts : (fs : FieldList) (items : Items) → FitFields fs (list_of items) → AreItemTexts items
  parts_texts no_fields no_items h = tt
  parts_texts no_fields (item d ds) h = absurd h
  parts_texts (field n e rest) no_items h = absurd h
  parts_texts (field n e rest) (item d ds) h = (value_texts e d h.0, parts_texts rest ds h.1)

members_texts : (F : Data → Type 0) → ((d : Data) → F d → AreTexts d) → (items : Items) → AllByRecursion F (list_of items) → AreItemTexts items
members_texts F each no_items h = tt
members_texts F each (item d ds) h = (each d h.0, members_texts F each ds h.1)

pub nested_texts : (e : Elem) (dims : List ℕ) (d : Data) → FitsNested e dims d → AreTexts d
nested_texts e [] d h = value_texts e d h
nested_texts e (n ∷ ns) d h = subst AreTexts (sym h.1) (members_texts (FitsNested e ns) (λ x q. nested_texts e ns x q) h.0 h.3)

-- ---- what is read of a text

chosen : (b : Bool) (o : Option Data) (d e : Data) → (if b then o else None) ≡ Some d → o ≡ Some e → d ≡ e
chosen true o d e h k = cc
chosen false o d e h k = absurd cc

pub tree_again : (bs : List ℕ) (d e : Data) → tree_in bs ≡ Some d → read bs ≡ Some e → d ≡ e
tree_again bs d e h k = chosen (is_utf8 bs) (read bs) d e h k
