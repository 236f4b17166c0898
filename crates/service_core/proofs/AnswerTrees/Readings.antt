-- What a world of shallow objects answers is read back.
use Rattle.std.proofs.Common.{ℕ, ◌≤◌, true, false, List, [], ◌∷◌, length, sym, subst, arith, Option, Some, None, codes}
use Rattle.std.specs.FinMap.{entries, len}
use Rattle.serde_json.specs.Data.{Members, no_members, object, depth, members_depth}
use Rattle.serde_json.specs.Read.{max_depth}
use Rattle.object_ids.specs.IdValues.{Id}
use Rattle.access_lists.specs.declared.people.Caller.{Caller}
use Rattle.access_lists.specs.declared.rights.Rights.{Rights}
use Rattle.access_lists.specs.EntryTrees.{acl_tree}
use Rattle.access_lists.specs.InForce.{Entries}
use Rattle.domains.specs.Children.{children_of}
use Rattle.domains.specs.Contents.{Contents}
use Rattle.domains.specs.NodeTrees.{child_tree, class_tree, node_tree}
use Rattle.domains.specs.declared.classes.Node.{Node}
use Rattle.domains.specs.declared.classes.NodeClass.{NodeClass}
use Rattle.domains.specs.declared.classes.NodeClass.TheVariants.{Folder, Domain}
use Rattle.hdf_types.specs.Views.{elem}
use Rattle.shapes.specs.declared.printing.Form.TheVariants.{Rest}
use Rattle.chunk_store.specs.Grids.{reads}
use Rattle.hyperslab.specs.Selected.{slab_cells}
use Rattle.object_ops.specs.Conditions.{IsSoundOp}
use Rattle.object_ops.specs.Refusals.{maybe_member, reason_alone, text_member}
use Rattle.object_ops.specs.Words.{select_word, value_word}
use Rattle.object_ops.specs.declared.refusals.Refusal.TheVariants.{BadSelect, BadValue}
use Rattle.object_ops.specs.declared.ops.Make.TheVariants as make
use Rattle.object_ops.specs.declared.ops.Request.{Request}
use Rattle.object_acts.specs.declared.objects.Body.{Body}
use Rattle.object_acts.specs.declared.objects.Body.TheVariants.{Group, Dataset, Datatype}
use Rattle.object_acts.specs.declared.objects.Object.{Object}
use Rattle.object_acts.specs.Trees.{body_tree, object_tree}
use Rattle.chunk_owner.proofs.Eaches.{each_empty}
use Rattle.register.specs.Decided.{acls_body, children_body}
use Rattle.service_core.specs.declared.answers.Answer.{Answer}
use Rattle.service_core.specs.Steps.{Steps, World}
use Rattle.service_core.specs.AnswerTrees.Readable.{AnswersAreReadable, AreShallow, CallsAreReadable, IsShallowBody, IsShallowGrid, IsShallowObject, NoneAreShallow, ReadsBack, RefusalsAreReadable, ShallowStaysShallow}
use Rattle.hdf_values.specs.Attributes.{content}
use Rattle.hdf_values.proofs.OfKept.TreeLemmas.{each_deep, nested_deep}
use Rattle.object_acts.proofs.OfDepths.Depths.{attribute_deep, attributes_deep, link_deep, links_deep, shape_deep, type_deep}
use Rattle.service_core.proofs.AnswerTrees.Depths.{creation_deep, part_deep}
use Rattle.service_core.proofs.AnswerTrees.Shallow.{change_shallow, linked_shallow, made_shallow}
use Rattle.service_core.proofs.AnswerTrees.Trees.{ArrayHas, Trees}
use Rattle.service_core.proofs.AnswerTrees.Worlds.{Gives, answer_gives}

-- ---- nodes and access lists

class_deep : (class : NodeClass) (owner : List ℕ) → depth (class_tree class owner) ≤ 1
class_deep Folder owner = omega arith
class_deep (Domain number root) owner = omega arith

node_readable : (node : Node) → ReadsBack (node_tree node)
node_readable node = omega (arith, class_deep node.class node.owner)

children_readable : (c : Contents) (folder : List ℕ) → ReadsBack (children_body c folder)
children_readable c folder =
    omega (arith, each_deep 1 (λ (e : List ℕ × Node). child_tree e.0 e.1) (children_of c folder) (λ e. omega arith))

acls_readable : (list : Entries) → ReadsBack (acls_body list)
acls_readable list = omega (arith, each_deep 1 (λ (e : List ℕ × Rights). acl_tree e.0 e.1) (entries list) (λ e. omega arith))

-- ---- objects

body_deep : (id root : Id) (attributes : ℕ) (body : Body) → IsShallowBody body → depth (body_tree id root attributes body) ≤ 14
body_deep id root attributes (Group links) h = omega arith
body_deep id root attributes (Dataset array) h =
    omega (arith, creation_deep array.grid h, shape_deep array.grid.shape Rest, type_deep array.grid.kind, h.nested)
body_deep id root attributes (Datatype type) h = omega (arith, type_deep (elem type), h)

object_readable : (id root : Id) (o : Object) → IsShallowObject o → depth (object_tree id root o) ≤ max_depth
object_readable id root o h = omega (arith, body_deep id root (len o.attributes) o.body h.body)

array_shallow : (body : Body) → IsShallowBody body → ArrayHas IsShallowGrid body
array_shallow (Group links) h = tt
array_shallow (Dataset array) h = h
array_shallow (Datatype type) h = tt

-- ---- refusals

text_flat : (key text : List ℕ) (rest : Members) → members_depth rest ≤ 0 → members_depth (text_member key text rest) ≤ 0
text_flat key text rest h = omega (arith, h)

maybe_flat : (key : List ℕ) (o : Option ℕ) (rest : Members) → members_depth rest ≤ 0 → members_depth (maybe_member key o rest) ≤ 0
maybe_flat key None rest h = h
maybe_flat key (Some n) rest h = omega (arith, h)

flat_readable : (ms : Members) → members_depth ms ≤ 0 → ReadsBack (object ms)
flat_readable ms h = omega (arith, h)

pub refusals_readable : RefusalsAreReadable
refusals_readable path (BadSelect fault axis byte index) =
    let last = reason_alone (codes "bad-select") in
    let third = maybe_member (codes "index") index last in
    let second = text_member (codes "fault") (select_word fault) third in
    let first = maybe_member (codes "byte") byte second in
    flat_readable (maybe_member (codes "axis") axis first)
    (maybe_flat (codes "axis") axis first (maybe_flat (codes "byte") byte second
    (text_flat (codes "fault") (select_word fault) third (maybe_flat (codes "index") index last (omega arith)))))
refusals_readable path (BadValue fault place got want) =
    let last = maybe_member (codes "want") want no_members in
    let third = text_member (codes "reason") (codes "bad-value") last in
    let second = maybe_member (codes "place") place third in
    let first = maybe_member (codes "got") got second in
    flat_readable (text_member (codes "fault") (value_word fault) first)
    (text_flat (codes "fault") (value_word fault) first (maybe_flat (codes "got") got second (maybe_flat (codes "place") place third
    (text_flat (codes "reason") (codes "bad-value") last (maybe_flat (codes "want") want no_members (omega arith))))))
refusals_readable path refusal = omega arith

-- ---- all answers

readable : Trees (λ status. ReadsBack) IsShallowObject IsShallowGrid IsSoundOp
readable = record {
  none = omega arith;
  added = omega arith;
  flushed = omega arith;
  node = node_readable;
  node_made = node_readable;
  children = children_readable;
  acls = acls_readable;
  acl = λ name rights. omega arith;
  object = object_readable;
  object_made = object_readable;
  links = λ titles. omega (arith, links_deep titles Rest);
  link = λ title to. omega (arith, link_deep title to Rest);
  attributes = λ o h. omega (arith, attributes_deep o.attributes Rest false h.attributes);
  attribute = λ o name a h there. omega (arith, attribute_deep name (content a) Rest true (h.attributes name a there));
  array = λ o h. array_shallow o.body h.body;
  shape = λ g h. omega (arith, shape_deep g.shape Rest);
  kind = λ g h. omega (arith, type_deep g.kind, h.nested);
  part = λ g s h within. omega (arith, part_deep g.shape g.kind s (reads g (slab_cells s g.shape)) within, h.nested, h.few_axes);
  points = λ g ps h. omega (arith, nested_deep g.kind (length ps ∷ []) (reads g ps), h.nested);
  empty = made_shallow make.Group tt;
  made = λ m place sound. made_shallow m sound.0;
  linked = linked_shallow;
  changed = change_shallow;
}

readings : (w : World) (caller : Caller) (request : Request) (answer : Answer) (v : World) → AreShallow w.objects → IsSoundOp request.op
    → Steps w caller request answer v → Gives readable (answer.what, v.objects)
readings w caller request answer v shallow sound steps = answer_gives readable w caller request sound shallow answer.what v steps.answered

pub answers_readable : AnswersAreReadable
answers_readable w caller request answer v shallow sound steps = (readings w caller request answer v shallow sound steps).0

pub stays_shallow : ShallowStaysShallow
stays_shallow w caller request answer v shallow sound steps = (readings w caller request answer v shallow sound steps).1

pub none_shallow : NoneAreShallow
none_shallow = each_empty (λ (id : Id) (o : Object). IsShallowObject o)

pub calls_readable : CallsAreReadable
calls_readable w last [] shallow sound steps = (tt, subst (λ (x : World). AreShallow x.objects) (sym steps) shallow)
calls_readable w last (c ∷ cs) shallow sound steps =
    let first = readings w c.caller c.request c.answer c.after shallow sound.0 steps.0 in
    let rest = calls_readable c.after last cs first.1 sound.1 steps.1 in
    ((first.0, rest.0), rest.1)
