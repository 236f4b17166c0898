-- What each decision leaves.
use Rattle.std.proofs.Common.{◌≡◌, ℕ, ◌+◌, nat_lt, Bool, true, false, cond, List, Option, Some, None, refl, ap}
use Rattle.std.specs.FinMap.{get}
use Rattle.object_ids.specs.IdValues.{Id}
use Rattle.object_ids.specs.declared.limits.LimitKind.TheVariants as limit
use Rattle.access_lists.specs.declared.people.Caller.{Caller}
use Rattle.access_lists.specs.declared.right.Right.{Right}
use Rattle.access_lists.specs.declared.rights.Rights.{Rights}
use Rattle.access_lists.specs.InForce.{has}
use Rattle.domains.specs.Changes.{domain_fault, entry_fault, make_fault, new_domain, remove_fault, without_node}
use Rattle.domains.specs.Contents.{Contents}
use Rattle.domains.specs.NodeTrees.{node_tree}
use Rattle.domains.specs.declared.classes.Node.{Node}
use Rattle.domains.specs.declared.classes.NodeClass.{NodeClass}
use Rattle.domains.specs.declared.classes.NodeClass.TheVariants.{Folder, Domain}
use Rattle.domains.specs.declared.faults.CatFault.{CatFault}
use Rattle.object_ops.specs.Needs.{decided_at, right_for}
use Rattle.object_ops.specs.Parts.{id_of, kind_made}
use Rattle.object_ops.specs.declared.ops.LinkPlace.{LinkPlace}
use Rattle.object_ops.specs.declared.ops.Make.{Make}
use Rattle.object_ops.specs.declared.ops.Op.{Op}
use Rattle.object_ops.specs.declared.ops.Op.TheVariants.{GetNode, PutNode, Flush, DropNode, ListNodes, GetAcls, GetAcl, PutAcl, MakeObject}
use Rattle.object_ops.specs.declared.ops.Request.{Request}
use Rattle.object_ops.specs.declared.refusals.Refusal.{Refusal}
use Rattle.object_ops.specs.declared.refusals.Refusal.TheVariants.{Limit, NoDomain}
use Rattle.object_ops.specs.declared.replies.Reply.TheVariants.{Done}
use Rattle.register.specs.Decided.{RegisterState, at_maybe, changed_at, decided, domain_added, domain_made, entry_put, entry_read, fits, folder_made, foreign_in, forgotten, granted, in_domain, make_steps, most_of, node_made, node_removed, object_granted, one_step, owner_of, passed, refused, serial_limit}
use Rattle.register.specs.Laws.{DecisionsKeep, TakesPlace}
use Rattle.register.specs.declared.verdicts.Verdict.{Verdict}
use Rattle.register.specs.declared.verdicts.Verdict.TheVariants.{Granted, Answered, Denied, Refused, NoMemory}

-- one place more was given, and a denial and a refusal leave all else
abbrev Keeps : RegisterState → Verdict × RegisterState → Type 0
Keeps d (Denied right, new) = new ≡ passed d
Keeps d (Refused refusal, new) = new ≡ passed d
Keeps d (v, new) = new.places ≡ d.places + 1

module _ (d : RegisterState) where
  folder_keeps : (path owner : List ℕ) (fault : Option CatFault) → Keeps d (folder_made d path owner fault)
  folder_keeps path owner None = refl
  folder_keeps path owner (Some fault) = refl

  new_domain_keeps : (path owner : List ℕ) (few : Bool) → Keeps d (let node = new_domain d.catalogue.next d.run d.serial owner in
      cond few (Answered (Done 201 (node_tree node)), passed (domain_added d path owner)) (refused (Limit (most_of limit.Serial) limit.Serial) d))
  new_domain_keeps path owner true = refl
  new_domain_keeps path owner false = refl

  domain_keeps : (path owner : List ℕ) (fault : Option CatFault) → Keeps d (domain_made d path owner fault)
  domain_keeps path owner None = new_domain_keeps path owner (nat_lt d.serial serial_limit)
  domain_keeps path owner (Some fault) = refl

  node_keeps : (caller : Caller) (path : List ℕ) (folder : Bool) → Keeps d (node_made d caller path folder)
  node_keeps caller path true = folder_keeps path (owner_of caller) (make_fault d.catalogue path)
  node_keeps caller path false = domain_keeps path (owner_of caller) (domain_fault d.catalogue path)

  drop_keeps : (path : List ℕ) (c : Contents) (class : NodeClass) → Keeps d (forgotten (changed_at d path c) class)
  drop_keeps path c Folder = refl
  drop_keeps path c (Domain number root) = refl

  removed_keeps : (path : List ℕ) (class : NodeClass) (fault : Option CatFault) → Keeps d (node_removed d path class fault)
  removed_keeps path class None = drop_keeps path (without_node d.catalogue path) class
  removed_keeps path class (Some fault) = refl

  read_keeps : (name : List ℕ) (rights : Option Rights) → Keeps d (entry_read d name rights)
  read_keeps name None = refl
  read_keeps name (Some rights) = refl

  put_keeps : (path name : List ℕ) (rights : Rights) (fault : Option CatFault) → Keeps d (entry_put d path name rights fault)
  put_keeps path name rights None = refl
  put_keeps path name rights (Some fault) = refl

  -- ---- objects

  step_keeps : (number : ℕ) (root : Id) (id : Option Id) → Keeps d (one_step d number root id)
  step_keeps number root None = refl
  step_keeps number root (Some id) = refl

  object_keeps : (op : Op) (number : ℕ) (root : Id) (foreign : Option Id) → Keeps d (object_granted d number root op foreign)
  object_keeps op number root None = step_keeps number root (id_of op)
  object_keeps op number root (Some target) = refl

  make_keeps : (number : ℕ) (root fresh : Id) (place : Option LinkPlace) → Keeps d (make_steps (record d { serial = d.serial + 1 }) number root fresh place)
  make_keeps number root fresh None = refl
  make_keeps number root fresh (Some place) = refl

  make_or : (make : Make) (number : ℕ) (root : Id) (place : Option LinkPlace) (few : Bool)
      → Keeps d (cond few (make_steps (record d { serial = d.serial + 1 }) number root (record { kind = kind_made make; domain = number; run = d.run; serial = d.serial }) place)
      (refused (Limit (most_of limit.Serial) limit.Serial) d))
  make_or make number root place true = make_keeps number root (record { kind = kind_made make; domain = number; run = d.run; serial = d.serial }) place
  make_or make number root place false = refl

  in_keeps : (op : Op) (class : NodeClass) → Keeps d (in_domain d op class)
  in_keeps op Folder = refl
  in_keeps (MakeObject make place) (Domain number root) = make_or make number root place (nat_lt d.serial serial_limit)
  in_keeps op (Domain number root) = object_keeps op number root (foreign_in number op)

  -- ---- the whole

  granted_keeps : (caller : Caller) (path : List ℕ) (op : Op) (node : Node) → Keeps d (granted d caller path op node)
  granted_keeps caller path GetNode node = refl
  granted_keeps caller path (PutNode folder) node = node_keeps caller path folder
  granted_keeps caller path Flush node = refl
  granted_keeps caller path DropNode node = removed_keeps path node.class (remove_fault d.catalogue path)
  granted_keeps caller path ListNodes node = refl
  granted_keeps caller path GetAcls node = refl
  granted_keeps caller path (GetAcl name) node = read_keeps name (get node.list name)
  granted_keeps caller path (PutAcl name rights) node = put_keeps path name rights (entry_fault d.catalogue path name)
  granted_keeps caller path op node = in_keeps op node.class

  judged_keeps : (caller : Caller) (path : List ℕ) (op : Op) (node : Node) (fit right : Bool)
      → Keeps d (cond fit (cond right (granted d caller path op node) (Denied (right_for op), passed d)) (refused NoDomain d))
  judged_keeps caller path op node true true = granted_keeps caller path op node
  judged_keeps caller path op node true false = refl
  judged_keeps caller path op node false right = refl

  at_keeps : (caller : Caller) (path : List ℕ) (op : Op) (node : Option Node) → Keeps d (at_maybe d caller path op node)
  at_keeps caller path op None = refl
  at_keeps caller path op (Some node) = judged_keeps caller path op node (fits op node.class) (has node.list caller (right_for op))

  decided_keeps : (caller : Caller) (request : Request) → Keeps d (decided d caller request)
  decided_keeps caller request = at_keeps caller request.path request.op (get d.catalogue.nodes (decided_at request))

-- ---- the laws

place_of : (d : RegisterState) (p : Verdict × RegisterState) → Keeps d p → p.1.places ≡ d.places + 1
place_of d (Granted issue, new) keeps = keeps
place_of d (Answered reply, new) keeps = keeps
place_of d (Denied right, new) keeps = ap (λ (x : RegisterState). x.places) keeps
place_of d (Refused refusal, new) keeps = ap (λ (x : RegisterState). x.places) keeps
place_of d (NoMemory, new) keeps = keeps

denial_keeps : (d : RegisterState) (p : Verdict × RegisterState) (right : Right) → Keeps d p → p.0 ≡ Denied right → p.1 ≡ passed d
denial_keeps d (Granted issue, new) right keeps e = absurd (cc)
denial_keeps d (Answered reply, new) right keeps e = absurd (cc)
denial_keeps d (Denied other, new) right keeps e = keeps
denial_keeps d (Refused refusal, new) right keeps e = absurd (cc)
denial_keeps d (NoMemory, new) right keeps e = absurd (cc)

refusal_keeps : (d : RegisterState) (p : Verdict × RegisterState) (refusal : Refusal) → Keeps d p → p.0 ≡ Refused refusal → p.1 ≡ passed d
refusal_keeps d (Granted issue, new) refusal keeps e = absurd (cc)
refusal_keeps d (Answered reply, new) refusal keeps e = absurd (cc)
refusal_keeps d (Denied right, new) refusal keeps e = absurd (cc)
refusal_keeps d (Refused other, new) refusal keeps e = keeps
refusal_keeps d (NoMemory, new) refusal keeps e = absurd (cc)

pub takes_place : TakesPlace
takes_place d caller request = place_of d (decided d caller request) (decided_keeps d caller request)

pub unserved_keep : DecisionsKeep
unserved_keep d caller request =
    let keeps = decided_keeps d caller request in
    (λ right e. denial_keeps d (decided d caller request) right keeps e, λ refusal e. refusal_keeps d (decided d caller request) refusal keeps e)
