-- What must hold of each tree of an answer, so that it holds of every answer's body.
use Rattle.std.proofs.Common.{◌≡◌, ℕ, Bool, true, false, cond, List, Option, Some, codes}
use Rattle.std.specs.FinMap.{FinMap, get}
use Rattle.serde_json.specs.Data.{Data}
use Rattle.containers.specs.TextMaps.Keyed.{text_order}
use Rattle.object_ids.specs.IdValues.{Id}
use Rattle.access_lists.specs.declared.rights.Rights.{Rights}
use Rattle.access_lists.specs.InForce.{Entries}
use Rattle.domains.specs.Contents.{Contents}
use Rattle.domains.specs.NodeTrees.{node_tree}
use Rattle.domains.specs.declared.classes.Node.{Node}
use Rattle.hdf_types.specs.Printed.{type_tree}
use Rattle.shapes.specs.declared.printing.Form.TheVariants.{Rest}
use Rattle.shapes.specs.Printed.{shape_tree}
use Rattle.hyperslab.specs.declared.Slab.{Slab}
use Rattle.hyperslab.specs.Selected.{SlabIn}
use Rattle.hdf_values.specs.declared.attributes.Attribute.{Attribute}
use Rattle.hdf_values.specs.Attributes.{content}
use Rattle.attributes.specs.AttributeTrees.{attribute_tree, attributes_list}
use Rattle.groups_links.specs.declared.target.LinkTo.{LinkTo}
use Rattle.groups_links.specs.Printed.{link_tree, links_list}
use Rattle.chunk_store.specs.Grids.{Grid}
use Rattle.object_ops.specs.Replies.{nothing, only}
use Rattle.object_ops.specs.declared.ops.LinkPlace.{LinkPlace}
use Rattle.object_ops.specs.declared.ops.Make.{Make}
use Rattle.object_ops.specs.declared.ops.Op.{Op}
use Rattle.object_ops.specs.declared.ops.Op.TheVariants.{MakeObject}
use Rattle.object_acts.specs.Arrays.Arrays.{part_tree, points_tree}
use Rattle.object_acts.specs.declared.objects.Body.{Body}
use Rattle.object_acts.specs.declared.objects.Body.TheVariants.{Group, Dataset, Datatype}
use Rattle.object_acts.specs.declared.objects.Object.{Object}
use Rattle.object_acts.specs.Acts.{change_of}
use Rattle.object_acts.specs.Objects.{empty_group, made}
use Rattle.object_acts.specs.Trees.{object_tree}
use Rattle.chunk_owner.specs.Acts.{link_to}
use Rattle.register.specs.Decided.{acl_body, acls_body, children_body}

-- what holds of both outcomes of a test
pub either_way : {A : Type 0} (P : A → Type 0) (b : Bool) {x y : A} → P x → P y → P (cond b x y)
either_way P true h k = h
either_way P false h k = k

-- of a dataset its array
abbrev pub ArrayHas : (Grid → Type 0) → Body → Type 0
ArrayHas G (Group links) = Unit {0}
ArrayHas G (Dataset array) = G array.grid
ArrayHas G (Datatype type) = Unit {0}

-- `P` holds of each tree with its status, where `Q` holds of the object and `G` of its array;
-- where `S` holds of an operation, `Q` holds of the object that it leaves
pub record Trees (P : ℕ → Data → Type 0) (Q : Object → Type 0) (G : Grid → Type 0) (S : Op → Type 0) : Type 0 where
  pub none : P 200 nothing
  pub added : P 201 nothing
  pub flushed : P 204 nothing
  pub node : (n : Node) → P 200 (node_tree n)
  pub node_made : (n : Node) → P 201 (node_tree n)
  pub children : (c : Contents) (folder : List ℕ) → P 200 (children_body c folder)
  pub acls : (list : Entries) → P 200 (acls_body list)
  pub acl : (name : List ℕ) (rights : Rights) → P 200 (acl_body name rights)
  pub object : (id root : Id) (o : Object) → Q o → P 200 (object_tree id root o)
  pub object_made : (id root : Id) (o : Object) → Q o → P 201 (object_tree id root o)
  pub links : (titles : FinMap text_order LinkTo) → P 200 (only (codes "links") (links_list titles Rest))
  pub link : (title : List ℕ) (to : LinkTo) → P 200 (only (codes "link") (link_tree title to Rest))
  pub attributes : (o : Object) → Q o → P 200 (only (codes "attributes") (attributes_list o.attributes Rest false))
  pub attribute : (o : Object) (name : List ℕ) (a : Attribute) → Q o → get o.attributes name ≡ Some a
      → P 200 (attribute_tree name (content a) Rest true)
  pub array : (o : Object) → Q o → ArrayHas G o.body
  pub shape : (g : Grid) → G g → P 200 (only (codes "shape") (shape_tree g.shape Rest))
  pub kind : (g : Grid) → G g → P 200 (only (codes "type") (type_tree g.kind))
  pub part : (g : Grid) (s : Slab) → G g → SlabIn s g.shape → P 200 (only (codes "value") (part_tree g s))
  pub points : (g : Grid) (ps : List (List ℕ)) → G g → P 200 (only (codes "value") (points_tree g ps))
  pub empty : Q empty_group
  pub made : (make : Make) (place : Option LinkPlace) → S (MakeObject make place) → Q (made make)
  pub linked : (place : LinkPlace) (fresh : Id) (o : Object) → Q o → Q (link_to place fresh o).1
  pub changed : (op : Op) (o : Object) → S op → Q o → Q (change_of op o).1
