-- No tree of an answer has a number with a fraction or an exponent.
use Rattle.std.proofs.Common.{◌≡◌, ℕ, true, false, List, [], ◌∷◌, length, Option, Some, None, refl, codes}
use Rattle.std.specs.FinMap.{entries, len}
use Rattle.hdf_types.specs.Elems.{Elem}
use Rattle.shapes.specs.declared.Shape.{Shape}
use Rattle.shapes.specs.declared.Shape.TheVariants.{Null, Scalar, Simple}
use Rattle.shapes.specs.declared.printing.Form.TheVariants.{Rest}
use Rattle.hdf_values.specs.Attributes.{content}
use Rattle.serde_json.specs.Data.{Members}
use Rattle.serde_json.specs.Written.{has_float, members_have_float}
use Rattle.object_ids.specs.IdValues.{Id}
use Rattle.access_lists.specs.declared.rights.Rights.{Rights}
use Rattle.access_lists.specs.EntryTrees.{acl_tree, acls_tree}
use Rattle.access_lists.specs.InForce.{Entries}
use Rattle.domains.specs.Children.{children_of}
use Rattle.domains.specs.Contents.{Contents}
use Rattle.domains.specs.NodeTrees.{child_tree, children_tree, class_tree, node_tree}
use Rattle.domains.specs.declared.classes.Node.{Node}
use Rattle.domains.specs.declared.classes.NodeClass.{NodeClass}
use Rattle.domains.specs.declared.classes.NodeClass.TheVariants.{Folder, Domain}
use Rattle.hdf_types.specs.Views.{elem}
use Rattle.hyperslab.specs.Selected.{extents, slab_cells}
use Rattle.chunk_store.specs.Grids.{Grid, reads}
use Rattle.object_ops.specs.Refusals.{maybe_member}
use Rattle.object_ops.specs.declared.refusals.Refusal.TheVariants.{BadSelect, BadValue}
use Rattle.object_ops.specs.declared.ops.Op.{Op}
use Rattle.object_acts.specs.Arrays.Arrays.{nested_by}
use Rattle.object_acts.specs.declared.objects.Body.{Body}
use Rattle.object_acts.specs.declared.objects.Body.TheVariants.{Group, Dataset, Datatype}
use Rattle.object_acts.specs.declared.objects.Object.{Object}
use Rattle.object_acts.specs.Trees.{body_tree, object_tree}
use Rattle.object_acts.proofs.OfExact.Floats.{attribute_exact, attributes_exact, creation_exact, link_exact, links_exact, list_exact, neither, nested_exact, shape_exact, type_exact}
use Rattle.service_core.specs.AnswerTrees.Exact.{ActsAreExact, AnswersAreExact, DecisionsAreExact, HasNoFloat, RefusalsAreExact}
use Rattle.service_core.proofs.AnswerTrees.Catalogue.{decisions_have}
use Rattle.service_core.proofs.AnswerTrees.Objects.{AreAll, acted_leaves}
use Rattle.service_core.proofs.AnswerTrees.Trees.{ArrayHas, Trees}
use Rattle.service_core.proofs.AnswerTrees.Worlds.{answer_gives}
use Rattle.object_acts.specs.Objects.{Objects}

-- ---- the value of a part, and objects

nested_by_exact : (s : Shape) (e : Elem) (dims bs : List ℕ) → has_float (nested_by s e dims bs) ≡ false
nested_by_exact Null e dims bs = refl
nested_by_exact Scalar e dims bs = nested_exact e dims bs
nested_by_exact (Simple ns limits) e dims bs = nested_exact e dims bs

body_exact : (id root : Id) (attributes : ℕ) (body : Body) → has_float (body_tree id root attributes body) ≡ false
body_exact id root attributes (Group links) = refl
body_exact id root attributes (Dataset array) =
    let g = array.grid in
    neither (creation_exact g) (neither (shape_exact g.shape Rest) (neither (type_exact g.kind) refl))
body_exact id root attributes (Datatype type) = neither (type_exact (elem type)) refl

object_exact : (id root : Id) (o : Object) → has_float (object_tree id root o) ≡ false
object_exact id root o = body_exact id root (len o.attributes) o.body

-- ---- nodes and access lists

class_exact : (class : NodeClass) (owner : List ℕ) → has_float (class_tree class owner) ≡ false
class_exact Folder owner = refl
class_exact (Domain number root) owner = refl

node_exact : (node : Node) → has_float (node_tree node) ≡ false
node_exact node = class_exact node.class node.owner

children_exact : (c : Contents) (folder : List ℕ) → has_float (children_tree c folder) ≡ false
children_exact c folder = list_exact (λ (e : List ℕ × Node). child_tree e.0 e.1) (children_of c folder) (λ e. refl)

acls_exact : (list : Entries) → has_float (acls_tree list) ≡ false
acls_exact list = list_exact (λ (e : List ℕ × Rights). acl_tree e.0 e.1) (entries list) (λ e. refl)

-- ---- refusals

maybe_exact : (key : List ℕ) (o : Option ℕ) (rest : Members) → members_have_float rest ≡ false → members_have_float (maybe_member key o rest) ≡ false
maybe_exact key None rest h = h
maybe_exact key (Some n) rest h = h

pub refusals_exact : RefusalsAreExact
refusals_exact path (BadSelect fault axis byte index) =
    maybe_exact (codes "axis") axis _ (maybe_exact (codes "byte") byte _ (maybe_exact (codes "index") index _ refl))
refusals_exact path (BadValue fault place got want) =
    maybe_exact (codes "got") got _ (maybe_exact (codes "place") place _ (maybe_exact (codes "want") want _ refl))
refusals_exact path refusal = refl

-- ---- all answers

abbrev pub AnyObject : Object → Type 0
AnyObject o = Unit {0}

abbrev pub AnyGrid : Grid → Type 0
AnyGrid g = Unit {0}

abbrev pub AnyOp : Op → Type 0
AnyOp op = Unit {0}

pub any_array : (body : Body) → ArrayHas AnyGrid body
any_array (Group links) = tt
any_array (Dataset array) = tt
any_array (Datatype type) = tt

exact : Trees (λ status. HasNoFloat) AnyObject AnyGrid AnyOp
exact = record {
  none = refl;
  added = refl;
  flushed = refl;
  node = node_exact;
  node_made = node_exact;
  children = λ c folder. neither (children_exact c folder) refl;
  acls = λ list. neither (acls_exact list) refl;
  acl = λ name rights. refl;
  object = λ id root o any. object_exact id root o;
  object_made = λ id root o any. object_exact id root o;
  links = λ titles. neither (links_exact titles Rest) refl;
  link = λ title to. neither (link_exact title to Rest) refl;
  attributes = λ o any. neither (attributes_exact o.attributes Rest false) refl;
  attribute = λ o name a any there. attribute_exact name (content a) Rest true;
  array = λ o any. any_array o.body;
  shape = λ g any. neither (shape_exact g.shape Rest) refl;
  kind = λ g any. neither (type_exact g.kind) refl;
  part = λ g s any within. neither (nested_by_exact g.shape g.kind (extents s) (reads g (slab_cells s g.shape))) refl;
  points = λ g ps any. neither (nested_exact g.kind (length ps ∷ []) (reads g ps)) refl;
  empty = tt;
  made = λ make place any. tt;
  linked = λ place fresh o any. tt;
  changed = λ op o any same. tt;
}

any_objects : (m : Objects) → AreAll exact m
any_objects m = λ id o there. tt

pub decisions_exact : DecisionsAreExact
decisions_exact = decisions_have exact

pub acts_exact : ActsAreExact
acts_exact g op s m = (acted_leaves exact g op s m tt (any_objects m)).0

pub answers_exact : AnswersAreExact
answers_exact w caller request answer v steps =
    (answer_gives exact w caller request tt (any_objects w.objects) answer.what v steps.answered).0
