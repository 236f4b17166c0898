-- Places and tickets that were given don't matter to what is answered.
use Rattle.std.proofs.Common.{◌≡◌, ℕ, ◌+◌, nat_lt, Bool, true, false, cond, List, [], ◌∷◌, map, Option, Some, None, refl, ap, sym, subst, ◌∙◌}
use Rattle.std.specs.FinMap.{get}
use Rattle.object_ids.specs.IdValues.{Id}
use Rattle.object_ids.specs.declared.limits.LimitKind.TheVariants as limit
use Rattle.access_lists.specs.declared.people.Caller.{Caller}
use Rattle.access_lists.specs.declared.rights.Rights.{Rights}
use Rattle.access_lists.specs.InForce.{has}
use Rattle.domains.specs.Changes.{domain_fault, entry_fault, make_fault, new_domain, remove_fault, without_node}
use Rattle.domains.specs.Contents.{Contents}
use Rattle.domains.specs.NodeTrees.{node_tree}
use Rattle.domains.specs.declared.classes.Node.{Node}
use Rattle.domains.specs.declared.classes.NodeClass.{NodeClass}
use Rattle.domains.specs.declared.classes.NodeClass.TheVariants.{Folder, Domain}
use Rattle.domains.specs.declared.faults.CatFault.{CatFault}
use Rattle.object_ops.specs.Replies.{nothing}
use Rattle.object_ops.specs.Needs.{decided_at, right_for}
use Rattle.object_ops.specs.Parts.{id_of, kind_made}
use Rattle.object_ops.specs.declared.grants.Grant.{Grant}
use Rattle.object_ops.specs.declared.ops.LinkPlace.{LinkPlace}
use Rattle.object_ops.specs.declared.ops.Op.{Op}
use Rattle.object_ops.specs.declared.ops.Op.TheVariants.{GetNode, PutNode, Flush, DropNode, ListNodes, GetAcls, GetAcl, PutAcl, MakeObject}
use Rattle.object_ops.specs.declared.ops.Request.{Request}
use Rattle.object_ops.specs.declared.refusals.Refusal.TheVariants.{Limit, NoDomain}
use Rattle.object_ops.specs.declared.replies.Reply.{Reply}
use Rattle.object_ops.specs.declared.replies.Reply.TheVariants.{Done}
use Rattle.register.specs.Decided.{RegisterState, at_maybe, changed_at, decided, domain_added, domain_made, entry_put, entry_read, fits, folder_made, foreign_in, forgotten, granted, in_domain, make_steps, most_of, node_made, node_removed, object_granted, one_step, owner_of, passed, refused, serial_limit}
use Rattle.register.specs.Tickets.{Issue}
use Rattle.register.specs.declared.verdicts.Verdict.{Verdict}
use Rattle.register.specs.declared.verdicts.Verdict.TheVariants as verdict
use Rattle.service_core.specs.declared.answers.What.{What}
use Rattle.service_core.specs.declared.answers.What.TheVariants.{Replied}
use Rattle.service_core.specs.Laws.{AreAlike, ReplaysAlike, StepsAlike}
use Rattle.service_core.specs.Steps.{World, by_verdict, served, started, step, without_domain}
use Rattle.register.specs.Marks.{Marked}
use Rattle.service_core.proofs.TurnLemmas.{run_by_steps, run_steps}
use Rattle.object_acts.specs.Objects.{Objects}

-- what is granted is served by its grant and its steps alone
served_alike : (op : Op) (i j : Issue) (m : Objects) → j.grant ≡ i.grant → map (λ t. t.step) j.left ≡ map (λ t. t.step) i.left → served op j m ≡ served op i m
served_alike DropNode i j m grant steps = ap (λ (g : Grant). (Done 200 nothing, without_domain g.number m)) grant
served_alike op i j m grant steps =
    run_by_steps j.grant op (started m) j.left ∙ (λ k. run_steps (grant k) op (started m) (steps k)) ∙ sym (run_by_steps i.grant op (started m) i.left)

-- verdicts that are obeyed alike, and registers that are alike
record IsAlike (op : Op) (a b : Verdict × RegisterState) : Type 0 where
  pub obeyed : (m : Objects) → by_verdict op b.0 m ≡ by_verdict op a.0 m
  pub catalogue : b.1.catalogue ≡ a.1.catalogue
  pub run : b.1.run ≡ a.1.run
  pub serial : b.1.serial ≡ a.1.serial

-- a register with other places, tickets and marks
module _ (d : RegisterState) (places : ℕ) (issued : List ℕ) (marks : Marked) where
  abbrev e : RegisterState
  e = record d { places = places; issued = issued; marks = marks }

  -- the same verdict
  same : (op : Op) (v : Verdict) (x y : RegisterState) → y.catalogue ≡ x.catalogue → y.run ≡ x.run → y.serial ≡ x.serial → IsAlike op (v, x) (v, y)
  same op v x y catalogue run serial = record { obeyed = λ m. refl; catalogue = catalogue; run = run; serial = serial }

  same_here : (op : Op) (v : Verdict) → IsAlike op (v, passed d) (v, passed e)
  same_here op v = same op v (passed d) (passed e) refl refl refl

  -- the same grant and steps
  issued_alike : (op : Op) (i j : Issue) (x y : RegisterState) → j.grant ≡ i.grant → map (λ t. t.step) j.left ≡ map (λ t. t.step) i.left
      → y.catalogue ≡ x.catalogue → y.run ≡ x.run → y.serial ≡ x.serial → IsAlike op (verdict.Granted i, x) (verdict.Granted j, y)
  issued_alike op i j x y grant steps catalogue run serial = record {
    obeyed = λ m. ap (λ (p : Reply × Objects). (Replied p.0, p.1)) (served_alike op i j m grant steps);
    catalogue = catalogue;
    run = run;
    serial = serial;
  }

  -- ---- folders, domains and access lists

  folder_alike : (op : Op) (path owner : List ℕ) (fault : Option CatFault) → IsAlike op (folder_made d path owner fault) (folder_made e path owner fault)
  folder_alike op path owner None = same op _ _ _ refl refl refl
  folder_alike op path owner (Some fault) = same_here op _

  new_domain_alike : (op : Op) (path owner : List ℕ) (few : Bool) → let node = new_domain d.catalogue.next d.run d.serial owner in
      let full : Verdict = verdict.Refused (Limit (most_of limit.Serial) limit.Serial) in
      IsAlike op
      (cond few (verdict.Answered (Done 201 (node_tree node)), passed (domain_added d path owner)) (full, passed d))
      (cond few (verdict.Answered (Done 201 (node_tree node)), passed (domain_added e path owner)) (full, passed e))
  new_domain_alike op path owner true = same op _ _ _ refl refl refl
  new_domain_alike op path owner false = same_here op _

  domain_alike : (op : Op) (path owner : List ℕ) (fault : Option CatFault) → IsAlike op (domain_made d path owner fault) (domain_made e path owner fault)
  domain_alike op path owner None = new_domain_alike op path owner (nat_lt d.serial serial_limit)
  domain_alike op path owner (Some fault) = same_here op _

  node_alike : (op : Op) (caller : Caller) (path : List ℕ) (folder : Bool) → IsAlike op (node_made d caller path folder) (node_made e caller path folder)
  node_alike op caller path true = folder_alike op path (owner_of caller) (make_fault d.catalogue path)
  node_alike op caller path false = domain_alike op path (owner_of caller) (domain_fault d.catalogue path)

  drop_alike : (path : List ℕ) (c : Contents) (class : NodeClass) → IsAlike DropNode (forgotten (changed_at d path c) class) (forgotten (changed_at e path c) class)
  drop_alike path c Folder = same DropNode _ _ _ refl refl refl
  drop_alike path c (Domain number root) = record { obeyed = λ m. refl; catalogue = refl; run = refl; serial = refl }

  removed_alike : (path : List ℕ) (class : NodeClass) (fault : Option CatFault) → IsAlike DropNode (node_removed d path class fault) (node_removed e path class fault)
  removed_alike path class None = drop_alike path (without_node d.catalogue path) class
  removed_alike path class (Some fault) = same_here DropNode _

  read_alike : (op : Op) (name : List ℕ) (rights : Option Rights) → IsAlike op (entry_read d name rights) (entry_read e name rights)
  read_alike op name None = same_here op _
  read_alike op name (Some rights) = same_here op _

  put_alike : (op : Op) (path name : List ℕ) (rights : Rights) (fault : Option CatFault) → IsAlike op (entry_put d path name rights fault) (entry_put e path name rights fault)
  put_alike op path name rights None = same op _ _ _ refl refl refl
  put_alike op path name rights (Some fault) = same_here op _

  -- ---- objects

  step_alike : (op : Op) (number : ℕ) (root : Id) (id : Option Id) → IsAlike op (one_step d number root id) (one_step e number root id)
  step_alike op number root None = same_here op _
  step_alike op number root (Some id) = issued_alike op _ _ _ _ refl refl refl refl refl

  object_alike : (op : Op) (number : ℕ) (root : Id) (foreign : Option Id) → IsAlike op (object_granted d number root op foreign) (object_granted e number root op foreign)
  object_alike op number root None = step_alike op number root (id_of op)
  object_alike op number root (Some target) = same_here op _

  make_alike : (op : Op) (number : ℕ) (root fresh : Id) (place : Option LinkPlace)
      → IsAlike op (make_steps (record d { serial = d.serial + 1 }) number root fresh place) (make_steps (record e { serial = d.serial + 1 }) number root fresh place)
  make_alike op number root fresh None = issued_alike op _ _ _ _ refl refl refl refl refl
  make_alike op number root fresh (Some place) = issued_alike op _ _ _ _ refl refl refl refl refl

  make_or : (op : Op) (number : ℕ) (root fresh : Id) (place : Option LinkPlace) (few : Bool) → let full : Verdict = verdict.Refused (Limit (most_of limit.Serial) limit.Serial) in
      IsAlike op
      (cond few (make_steps (record d { serial = d.serial + 1 }) number root fresh place) (full, passed d))
      (cond few (make_steps (record e { serial = d.serial + 1 }) number root fresh place) (full, passed e))
  make_or op number root fresh place true = make_alike op number root fresh place
  make_or op number root fresh place false = same_here op _

  in_alike : (op : Op) (class : NodeClass) → IsAlike op (in_domain d op class) (in_domain e op class)
  in_alike op Folder = same_here op _
  in_alike (MakeObject make place) (Domain number root) =
      make_or (MakeObject make place) number root (record { kind = kind_made make; domain = number; run = d.run; serial = d.serial }) place (nat_lt d.serial serial_limit)
  in_alike op (Domain number root) = object_alike op number root (foreign_in number op)

  -- ---- the whole

  granted_alike : (caller : Caller) (path : List ℕ) (op : Op) (node : Node) → IsAlike op (granted d caller path op node) (granted e caller path op node)
  granted_alike caller path GetNode node = same_here GetNode _
  granted_alike caller path (PutNode folder) node = node_alike (PutNode folder) caller path folder
  granted_alike caller path Flush node = same_here Flush _
  granted_alike caller path DropNode node = removed_alike path node.class (remove_fault d.catalogue path)
  granted_alike caller path ListNodes node = same_here ListNodes _
  granted_alike caller path GetAcls node = same_here GetAcls _
  granted_alike caller path (GetAcl name) node = read_alike (GetAcl name) name (get node.list name)
  granted_alike caller path (PutAcl name rights) node = put_alike (PutAcl name rights) path name rights (entry_fault d.catalogue path name)
  granted_alike caller path op node = in_alike op node.class

  judged_alike : (caller : Caller) (path : List ℕ) (op : Op) (node : Node) (fit right : Bool) → IsAlike op
      (cond fit (cond right (granted d caller path op node) (verdict.Denied (right_for op), passed d)) (refused NoDomain d))
      (cond fit (cond right (granted e caller path op node) (verdict.Denied (right_for op), passed e)) (refused NoDomain e))
  judged_alike caller path op node true true = granted_alike caller path op node
  judged_alike caller path op node true false = same_here op _
  judged_alike caller path op node false right = same_here op _

  at_alike : (caller : Caller) (path : List ℕ) (op : Op) (node : Option Node) → IsAlike op (at_maybe d caller path op node) (at_maybe e caller path op node)
  at_alike caller path op None = same_here op _
  at_alike caller path op (Some node) = judged_alike caller path op node (fits op node.class) (has node.list caller (right_for op))

  decided_alike : (caller : Caller) (request : Request) → IsAlike request.op (decided d caller request) (decided e caller request)
  decided_alike caller request = at_alike caller request.path request.op (get d.catalogue.nodes (decided_at request))

-- ---- the laws

pub steps_alike : StepsAlike
steps_alike w v caller request alike =
    let other : World = record { register = record w.register { places = v.register.places; issued = v.register.issued; marks = v.register.marks }; objects = w.objects } in
    let is : v ≡ other = λ k. record {
      register = record { catalogue = alike.catalogue k; run = alike.run k; serial = alike.serial k; places = v.register.places; issued = v.register.issued; marks = v.register.marks };
      objects = alike.objects k;
    } in
    let a = decided_alike w.register v.register.places v.register.issued v.register.marks caller request in
    let Alike : World → Type 0 = λ x. ((step x caller request).0 ≡ (step w caller request).0) × AreAlike (step w caller request).1 (step x caller request).1 in
    subst Alike (sym is) (
      ap (λ (q : What × Objects). q.0) (a.obeyed w.objects),
      record { catalogue = a.catalogue; run = a.run; serial = a.serial; objects = ap (λ (q : What × Objects). q.1) (a.obeyed w.objects) },
    )

pub replays_alike : ReplaysAlike
replays_alike w v [] alike = (refl, alike)
replays_alike w v (c ∷ cs) alike =
    let first = steps_alike w v c.0 c.1 alike in
    let more = replays_alike (step w c.0 c.1).1 (step v c.0 c.1).1 cs first.1 in
    (λ k. first.0 k ∷ more.0 k, more.1)
