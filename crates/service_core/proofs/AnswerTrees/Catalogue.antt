-- What the register answers by itself.
use Rattle.std.proofs.Common.{ℕ, Bool, true, false, List, nat_lt, Option, Some, None}
use Rattle.std.specs.FinMap.{get}
use Rattle.serde_json.specs.Data.{Data}
use Rattle.object_ids.specs.IdValues.{Id}
use Rattle.access_lists.specs.declared.people.Caller.{Caller}
use Rattle.access_lists.specs.declared.rights.Rights.{Rights}
use Rattle.access_lists.specs.InForce.{has}
use Rattle.domains.specs.Changes.{domain_fault, entry_fault, make_fault, new_domain, new_node, remove_fault, without_node}
use Rattle.domains.specs.declared.classes.Node.{Node}
use Rattle.domains.specs.declared.classes.NodeClass.{NodeClass}
use Rattle.domains.specs.declared.classes.NodeClass.TheVariants.{Folder, Domain}
use Rattle.domains.specs.declared.faults.CatFault.{CatFault}
use Rattle.object_ops.specs.Needs.{decided_at, right_for}
use Rattle.object_ops.specs.Parts.{id_of}
use Rattle.object_ops.specs.declared.ops.LinkPlace.{LinkPlace}
use Rattle.object_ops.specs.declared.ops.Make.{Make}
use Rattle.object_ops.specs.declared.ops.Op.{Op}
use Rattle.object_ops.specs.declared.ops.Op.TheVariants.{GetNode, PutNode, Flush, DropNode, ListNodes, GetAcls, GetAcl, PutAcl, MakeObject}
use Rattle.object_ops.specs.declared.ops.Request.{Request}
use Rattle.chunk_store.specs.Grids.{Grid}
use Rattle.object_acts.specs.declared.objects.Object.{Object}
use Rattle.register.specs.Decided.{changed_at, RegisterState, at_maybe, at_node, decided, domain_made, entry_put, entry_read, fits, folder_made, foreign_in, forgotten, granted, in_domain, make_granted, make_steps, node_made, node_removed, object_granted, one_step, owner_of, serial_limit}
use Rattle.register.specs.declared.verdicts.Verdict.{Verdict}
use Rattle.service_core.specs.AnswerTrees.Bodies.{VerdictHas}
use Rattle.service_core.proofs.AnswerTrees.Trees.{Trees, either_way}

module _ {P : ℕ → Data → Type 0} {Q : Object → Type 0} {G : Grid → Type 0} {S : Op → Type 0} (t : Trees P Q G S) where
  -- the verdict of what is decided
  abbrev pub DecidedHas : Verdict × RegisterState → Type 0
  DecidedHas p = VerdictHas P p.0

  -- ---- folders and domains

  folder_has : (d : RegisterState) (path owner : List ℕ) (o : Option CatFault) → DecidedHas (folder_made d path owner o)
  folder_has d path owner None = t.node_made (new_node Folder owner)
  folder_has d path owner (Some fault) = tt

  domain_has : (d : RegisterState) (path owner : List ℕ) (o : Option CatFault) → DecidedHas (domain_made d path owner o)
  domain_has d path owner None =
      either_way DecidedHas (nat_lt d.serial serial_limit) (t.node_made (new_domain d.catalogue.next d.run d.serial owner)) tt
  domain_has d path owner (Some fault) = tt

  made_has : (d : RegisterState) (caller : Caller) (path : List ℕ) (folder : Bool) → DecidedHas (node_made d caller path folder)
  made_has d caller path true = folder_has d path (owner_of caller) (make_fault d.catalogue path)
  made_has d caller path false = domain_has d path (owner_of caller) (domain_fault d.catalogue path)

  forgotten_has : (d : RegisterState) (class : NodeClass) → DecidedHas (forgotten d class)
  forgotten_has d Folder = t.none
  forgotten_has d (Domain number root) = tt

  removed_has : (d : RegisterState) (path : List ℕ) (class : NodeClass) (o : Option CatFault) → DecidedHas (node_removed d path class o)
  removed_has d path class None = forgotten_has (changed_at d path (without_node d.catalogue path)) class
  removed_has d path class (Some fault) = tt

  -- ---- access lists

  entry_read_has : (d : RegisterState) (name : List ℕ) (o : Option Rights) → DecidedHas (entry_read d name o)
  entry_read_has d name None = tt
  entry_read_has d name (Some rights) = t.acl name rights

  entry_put_has : (d : RegisterState) (path name : List ℕ) (rights : Rights) (o : Option CatFault) → DecidedHas (entry_put d path name rights o)
  entry_put_has d path name rights None = t.added
  entry_put_has d path name rights (Some fault) = tt

  -- ---- objects, which the register answers nothing of

  step_has : (d : RegisterState) (number : ℕ) (root : Id) (at : Option Id) → DecidedHas (one_step d number root at)
  step_has d number root None = tt
  step_has d number root (Some id) = tt

  object_has : (d : RegisterState) (number : ℕ) (root : Id) (op : Op) (target : Option Id) → DecidedHas (object_granted d number root op target)
  object_has d number root op None = step_has d number root (id_of op)
  object_has d number root op (Some target) = tt

  steps_has : (d : RegisterState) (number : ℕ) (root fresh : Id) (place : Option LinkPlace) → DecidedHas (make_steps d number root fresh place)
  steps_has d number root fresh None = tt
  steps_has d number root fresh (Some place) = tt

  make_has : (d : RegisterState) (number : ℕ) (root : Id) (make : Make) (place : Option LinkPlace)
      → DecidedHas (make_granted d number root make place)
  make_has d number root make place = either_way DecidedHas (nat_lt d.serial serial_limit) (steps_has _ number root _ place) tt

  in_domain_has : (d : RegisterState) (op : Op) (class : NodeClass) → DecidedHas (in_domain d op class)
  in_domain_has d op Folder = tt
  in_domain_has d (MakeObject make place) (Domain number root) = make_has d number root make place
  in_domain_has d op (Domain number root) = object_has d number root op (foreign_in number op)

  -- ---- the whole

  granted_has : (d : RegisterState) (caller : Caller) (path : List ℕ) (op : Op) (node : Node) → DecidedHas (granted d caller path op node)
  granted_has d caller path GetNode node = t.node node
  granted_has d caller path (PutNode folder) node = made_has d caller path folder
  granted_has d caller path Flush node = t.flushed
  granted_has d caller path DropNode node = removed_has d path node.class (remove_fault d.catalogue path)
  granted_has d caller path ListNodes node = t.children d.catalogue path
  granted_has d caller path GetAcls node = t.acls node.list
  granted_has d caller path (GetAcl name) node = entry_read_has d name (get node.list name)
  granted_has d caller path (PutAcl name rights) node = entry_put_has d path name rights (entry_fault d.catalogue path name)
  granted_has d caller path op node = in_domain_has d op node.class

  at_node_has : (d : RegisterState) (caller : Caller) (path : List ℕ) (op : Op) (node : Node) → DecidedHas (at_node d caller path op node)
  at_node_has d caller path op node =
      either_way DecidedHas (fits op node.class)
      (either_way DecidedHas (has node.list caller (right_for op)) (granted_has d caller path op node) tt) tt

  at_maybe_has : (d : RegisterState) (caller : Caller) (path : List ℕ) (op : Op) (o : Option Node) → DecidedHas (at_maybe d caller path op o)
  at_maybe_has d caller path op None = tt
  at_maybe_has d caller path op (Some node) = at_node_has d caller path op node

  pub decisions_have : (d : RegisterState) (caller : Caller) (request : Request) → DecidedHas (decided d caller request)
  decisions_have d caller request = at_maybe_has d caller request.path request.op (get d.catalogue.nodes (decided_at request))
