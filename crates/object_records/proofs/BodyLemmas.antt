-- The body of an object's record is the one text of its tree.
use Rattle.std.proofs.Common.{◌≡◌, true, false, refl, ap}
use Rattle.serde_json.specs.Written.{compact_text, has_float}
use Rattle.hdf_types.specs.Views.{elem}
use Rattle.shapes.specs.declared.printing.Form.TheVariants.{Document}
use Rattle.attributes.specs.AttributeTrees.{attributes_list}
use Rattle.object_acts.specs.Objects.{unmarked, unmarked_body}
use Rattle.object_acts.specs.declared.objects.Object.{Object}
use Rattle.object_acts.specs.declared.objects.Body.{Body}
use Rattle.object_acts.specs.declared.objects.Body.TheVariants.{Group, Dataset, Datatype}
use Rattle.object_acts.proofs.OfExact.Floats.{attributes_exact, creation_exact, links_exact, neither, shape_exact, type_exact}
use Rattle.object_records.specs.Objects.{body_tree, object_body, object_tree, IsKeptBody}

-- no number of an object's tree has a fraction or an exponent
pub object_exact : (o : Object) → has_float (object_tree o) ≡ false
object_exact o = at o.body where
  at : (b : Body) → has_float (body_tree (attributes_list o.attributes Document true) b) ≡ false
  at (Group links) = neither (attributes_exact o.attributes Document true) (neither (links_exact links Document) refl)
  at (Dataset array) =
      let g = array.grid in
      neither (attributes_exact o.attributes Document true)
      (neither (creation_exact g)
      (neither (shape_exact g.shape Document)
      (neither (type_exact g.kind) refl)))
  at (Datatype type) = neither (attributes_exact o.attributes Document true) (neither (type_exact (elem type)) refl)

-- which chunks of an array changed is no part of the tree
pub tree_unmarked : (o : Object) → object_tree (unmarked o) ≡ object_tree o
tree_unmarked o = at o.body where
  at : (b : Body) → body_tree (attributes_list o.attributes Document true) (unmarked_body b) ≡ body_tree (attributes_list o.attributes Document true) b
  at (Group links) = refl
  at (Dataset array) = refl
  at (Datatype type) = refl

-- nor of the body
pub body_unmarked : (o : Object) → object_body (unmarked o) ≡ object_body o
unfolding object_body
body_unmarked o = ap compact_text (tree_unmarked o)

pub kept_unmarked : (b : Body) → IsKeptBody b → IsKeptBody (unmarked_body b)
kept_unmarked (Group links) kept = kept
kept_unmarked (Dataset array) kept = kept
kept_unmarked (Datatype type) kept = kept
