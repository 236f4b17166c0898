-- What is denied or refused is kept.
use Rattle.std.proofs.Common.{◌≡◌, inl, inr, ℕ, ◌+◌, nat_lt, Bool, true, false, cond, List, [], ◌∷◌, Option, Some, None, refl, sym, ap, subst, ◌∙◌}
use Rattle.std.specs.FinMap.{get}
use Rattle.object_ids.specs.IdValues.{Id}
use Rattle.object_ids.specs.declared.limits.LimitKind.TheVariants as limit
use Rattle.access_lists.specs.declared.people.Caller.{Caller}
use Rattle.access_lists.specs.declared.right.Right.{Right}
use Rattle.access_lists.specs.declared.rights.Rights.{Rights}
use Rattle.access_lists.specs.InForce.{has}
use Rattle.domains.specs.Contents.{Contents}
use Rattle.domains.specs.NodeTrees.{node_tree}
use Rattle.domains.specs.Changes.{domain_fault, entry_fault, make_fault, new_domain, remove_fault, without_node}
use Rattle.domains.specs.declared.classes.Node.{Node}
use Rattle.domains.specs.declared.classes.NodeClass.{NodeClass}
use Rattle.domains.specs.declared.classes.NodeClass.TheVariants.{Folder, Domain}
use Rattle.domains.specs.declared.faults.CatFault.{CatFault}
use Rattle.object_ops.specs.Needs.{decided_at, right_for}
use Rattle.object_ops.specs.Parts.{id_of, kind_made}
use Rattle.object_ops.specs.declared.ops.Request.{Request}
use Rattle.object_ops.specs.declared.ops.Op.{Op}
use Rattle.object_ops.specs.declared.ops.Op.TheVariants.{GetNode, PutNode, Flush, DropNode, ListNodes, GetAcls, GetAcl, PutAcl, MakeObject}
use Rattle.object_ops.specs.declared.ops.Make.{Make}
use Rattle.object_ops.specs.declared.ops.LinkPlace.{LinkPlace}
use Rattle.object_ops.specs.declared.grants.Grant.{Grant}
use Rattle.object_ops.specs.declared.grants.Step.{Step}
use Rattle.object_ops.specs.declared.grants.Step.TheVariants.{Make as Making}
use Rattle.object_ops.specs.declared.replies.Reply.{Reply}
use Rattle.object_ops.specs.declared.replies.Reply.TheVariants.{Done, Refused}
use Rattle.object_ops.specs.declared.refusals.Refusal.{Refusal}
use Rattle.object_ops.specs.declared.refusals.Refusal.TheVariants.{Limit, NoDomain}
use Rattle.chunk_owner.specs.Acts.{acted}
use Rattle.chunk_owner.specs.Lanes.{AreShown}
use Rattle.chunk_owner.specs.Laws.{RefusalsLeaveAll}
use Rattle.register.specs.Decided.{RegisterState, at_maybe, changed_at, decided, domain_added, domain_made, entry_put, entry_read, fits, folder_made, foreign_in, forgotten, grant_of, granted, in_domain, make_steps, most_of, node_made, node_removed, object_granted, one_step, owner_of, passed, refused, serial_limit}
use Rattle.register.specs.Tickets.{Issue}
use Rattle.register.specs.declared.tickets.Turn.{Turn}
use Rattle.register.specs.declared.verdicts.Verdict.{Verdict}
use Rattle.register.specs.declared.verdicts.Verdict.TheVariants as verdict
use Rattle.service_core.specs.declared.answers.What.TheVariants.{Replied, Denied}
use Rattle.service_core.specs.Keeps.{DenialsKeep, KeepsAll, RefusalsKeep}
use Rattle.service_core.specs.Steps.{by_verdict, run_on, served, started, step_taken}
use Rattle.object_acts.specs.Objects.{Objects}
use Rattle.object_ops.specs.Replies.{was_done}

-- ---- the steps of a request

-- these steps aren't refused, once those before them are done
abbrev Succeed : Grant → Op → List Turn → Type 0
Succeed g op ts = (p : Reply × Objects) → was_done p.0 ≡ true → was_done (run_on g op p ts).0 ≡ true

-- only the first step can be refused
abbrev FirstDecides : Grant → Op → List Turn → Type 0
FirstDecides g op [] = Unit {0}
FirstDecides g op (t ∷ ts) = Succeed g op ts

stays : (g : Grant) (op : Op) (q : Reply × Objects) (ts : List Turn) → was_done q.0 ≡ false → run_on g op q ts ≡ q
stays g op q [] e = refl
stays g op q (t ∷ ts) e = ap (λ b. cond b (run_on g op (step_taken g op t.step q.1) ts) q) e

refused_done : (r : Reply) (refusal : Refusal) → r ≡ Refused refusal → was_done r ≡ true → ⊥
refused_done r refusal e done = let no : false ≡ true = sym (ap was_done e) ∙ done in absurd (cc)

module _ (kept : RefusalsLeaveAll) (m : Objects) (shown : AreShown m) where
  first_kept : (g : Grant) (op : Op) (o : Option Step) (refusal : Refusal) → (step_taken g op o m).0 ≡ Refused refusal → (step_taken g op o m).1 ≡ m
  first_kept g op None refusal e = refl
  first_kept g op (Some s) refusal e =
      let Keeps : Objects → Type 0 = λ x. (acted g op s x).0 ≡ Refused refusal → (acted g op s x).1 ≡ x in
      subst Keeps shown (kept g op s m refusal) e

  after_first : (g : Grant) (op : Op) (q : Reply × Objects) (ts : List Turn) → Succeed g op ts → ((refusal : Refusal) → q.0 ≡ Refused refusal → q.1 ≡ m)
      → (done : Bool) → was_done q.0 ≡ done → (refusal : Refusal) → (run_on g op q ts).0 ≡ Refused refusal → (run_on g op q ts).1 ≡ m
  after_first g op q ts all first true done refusal e = absurd (refused_done _ refusal e (all q done))
  after_first g op q ts all first false done refusal e =
      let same = stays g op q ts done in ap (λ p. p.1) same ∙ first refusal (sym (ap (λ p. p.0) same) ∙ e)

  run_kept : (g : Grant) (op : Op) (ts : List Turn) → FirstDecides g op ts → (refusal : Refusal) → (run_on g op (started m) ts).0 ≡ Refused refusal → (run_on g op (started m) ts).1 ≡ m
  run_kept g op [] all refusal e = refl
  run_kept g op (t ∷ ts) all refusal e =
      let q = step_taken g op t.step m in after_first g op q ts all (first_kept g op t.step) (was_done q.0) refl refusal e

-- ---- what is decided

abbrev Granting : RegisterState → Op → Issue → RegisterState → Type 0
Granting d DropNode issue new = Unit {0}
Granting d op issue new = KeepsAll op d new × FirstDecides issue.grant op issue.left

-- the verdict leaves the register but for what is granted
abbrev Leaving : RegisterState → Op → Verdict × RegisterState → Type 0
Leaving d op (verdict.Granted issue, new) = Granting d op issue new
Leaving d op (verdict.Answered answer, new) = was_done answer ≡ true
Leaving d op (verdict.Denied right, new) = new ≡ passed d
Leaving d op (verdict.Refused refusal, new) = new ≡ passed d
Leaving d op (verdict.NoMemory, new) = Unit {0}

module _ (d : RegisterState) where
  folder_left : (op : Op) (path owner : List ℕ) (fault : Option CatFault) → Leaving d op (folder_made d path owner fault)
  folder_left op path owner None = refl
  folder_left op path owner (Some fault) = refl

  new_domain_left : (op : Op) (path owner : List ℕ) (few : Bool) → Leaving d op (let node = new_domain d.catalogue.next d.run d.serial owner in
      cond few (verdict.Answered (Done 201 (node_tree node)), passed (domain_added d path owner)) (refused (Limit (most_of limit.Serial) limit.Serial) d))
  new_domain_left op path owner true = refl
  new_domain_left op path owner false = refl

  domain_left : (op : Op) (path owner : List ℕ) (fault : Option CatFault) → Leaving d op (domain_made d path owner fault)
  domain_left op path owner None = new_domain_left op path owner (nat_lt d.serial serial_limit)
  domain_left op path owner (Some fault) = refl

  node_left : (op : Op) (caller : Caller) (path : List ℕ) (folder : Bool) → Leaving d op (node_made d caller path folder)
  node_left op caller path true = folder_left op path (owner_of caller) (make_fault d.catalogue path)
  node_left op caller path false = domain_left op path (owner_of caller) (domain_fault d.catalogue path)

  drop_left : (path : List ℕ) (c : Contents) (class : NodeClass) → Leaving d DropNode (forgotten (changed_at d path c) class)
  drop_left path c Folder = refl
  drop_left path c (Domain number root) = tt

  removed_left : (path : List ℕ) (class : NodeClass) (fault : Option CatFault) → Leaving d DropNode (node_removed d path class fault)
  removed_left path class None = drop_left path (without_node d.catalogue path) class
  removed_left path class (Some fault) = refl

  read_left : (op : Op) (name : List ℕ) (rights : Option Rights) → Leaving d op (entry_read d name rights)
  read_left op name None = refl
  read_left op name (Some rights) = refl

  put_left : (op : Op) (path name : List ℕ) (rights : Rights) (fault : Option CatFault) → Leaving d op (entry_put d path name rights fault)
  put_left op path name rights None = refl
  put_left op path name rights (Some fault) = refl

  -- ---- objects

  granting : (op : Op) (issue : Issue) (new : RegisterState) → KeepsAll op d new → FirstDecides issue.grant op issue.left → Granting d op issue new
  granting DropNode issue new all first = tt
  granting op issue new all first = (all, first)

  step_left : (op : Op) (number : ℕ) (root : Id) (o : Option Id) → Leaving d op (one_step d number root o)
  step_left op number root None = refl
  step_left op number root (Some id) = granting op _ _ (record { catalogue = refl; run = refl; places = refl; serial = inl refl }) (λ p done. done)

  object_left : (op : Op) (number : ℕ) (root : Id) (foreign : Option Id) → Leaving d op (object_granted d number root op foreign)
  object_left op number root None = step_left op number root (id_of op)
  object_left op number root (Some target) = refl

  one_more : (b : Bool) (p q : Reply × Objects) → b ≡ true → was_done p.0 ≡ true → was_done (cond b p q).0 ≡ true
  one_more true p q e done = done
  one_more false p q e done = absurd (cc)

  -- a new object is made once its link is done
  make_left : (make : Make) (number : ℕ) (root : Id) (place : Option LinkPlace)
      → Leaving d (MakeObject make place) (make_steps (record d { serial = d.serial + 1 }) number root (record { kind = kind_made make; domain = number; run = d.run; serial = d.serial }) place)
  make_left make number root None = (record { catalogue = refl; run = refl; places = refl; serial = inr (refl, refl) }, λ p done. done)
  make_left make number root (Some place) =
      let fresh : Id = record { kind = kind_made make; domain = number; run = d.run; serial = d.serial } in
      let g : Grant = grant_of (record d { serial = d.serial + 1 }) number root (Some fresh) in (
        record { catalogue = refl; run = refl; places = refl; serial = inr (refl, refl) },
        λ p done. one_more (was_done p.0) (step_taken g (MakeObject make (Some place)) (Some Making) p.1) p done refl,
      )

  make_or : (make : Make) (number : ℕ) (root : Id) (place : Option LinkPlace) (few : Bool)
      → Leaving d (MakeObject make place) (cond few (make_steps (record d { serial = d.serial + 1 }) number root (record { kind = kind_made make; domain = number; run = d.run; serial = d.serial }) place)
      (refused (Limit (most_of limit.Serial) limit.Serial) d))
  make_or make number root place true = make_left make number root place
  make_or make number root place false = refl

  in_left : (op : Op) (class : NodeClass) → Leaving d op (in_domain d op class)
  in_left op Folder = refl
  in_left (MakeObject make place) (Domain number root) = make_or make number root place (nat_lt d.serial serial_limit)
  in_left op (Domain number root) = object_left op number root (foreign_in number op)

  granted_left : (caller : Caller) (path : List ℕ) (op : Op) (node : Node) → Leaving d op (granted d caller path op node)
  granted_left caller path GetNode node = refl
  granted_left caller path (PutNode folder) node = node_left (PutNode folder) caller path folder
  granted_left caller path Flush node = refl
  granted_left caller path DropNode node = removed_left path node.class (remove_fault d.catalogue path)
  granted_left caller path ListNodes node = refl
  granted_left caller path GetAcls node = refl
  granted_left caller path (GetAcl name) node = read_left (GetAcl name) name (get node.list name)
  granted_left caller path (PutAcl name rights) node = put_left (PutAcl name rights) path name rights (entry_fault d.catalogue path name)
  granted_left caller path op node = in_left op node.class

  judged_left : (caller : Caller) (path : List ℕ) (op : Op) (node : Node) (fit right : Bool)
      → Leaving d op (cond fit (cond right (granted d caller path op node) (verdict.Denied (right_for op), passed d)) (refused NoDomain d))
  judged_left caller path op node true true = granted_left caller path op node
  judged_left caller path op node true false = refl
  judged_left caller path op node false right = refl

  at_left : (caller : Caller) (path : List ℕ) (op : Op) (node : Option Node) → Leaving d op (at_maybe d caller path op node)
  at_left caller path op None = refl
  at_left caller path op (Some node) = judged_left caller path op node (fits op node.class) (has node.list caller (right_for op))

  decided_left : (caller : Caller) (request : Request) → Leaving d request.op (decided d caller request)
  decided_left caller request = at_left caller request.path request.op (get d.catalogue.nodes (decided_at request))

-- ---- the laws

denied_left : (d : RegisterState) (m : Objects) (op : Op) (p : Verdict × RegisterState) (right : Right) → Leaving d op p → (by_verdict op p.0 m).0 ≡ Denied right → (p.1 ≡ passed d) × ((by_verdict op p.0 m).1 ≡ m)
denied_left d m op (verdict.Granted issue, new) right left e = absurd (cc)
denied_left d m op (verdict.Answered answer, new) right left e = absurd (cc)
denied_left d m op (verdict.Denied other, new) right left e = (left, refl)
denied_left d m op (verdict.Refused refusal, new) right left e = absurd (cc)
denied_left d m op (verdict.NoMemory, new) right left e = absurd (cc)

pub denials_kept : DenialsKeep
denials_kept w caller request right e =
    let left = denied_left w.register w.objects request.op (decided w.register caller request) right (decided_left w.register caller request) e in
    λ i. record { register = left.0 i; objects = left.1 i }

answer_in : (r : Reply) (refusal : Refusal) → Replied r ≡ Replied (Refused refusal) → r ≡ Refused refusal
answer_in r refusal e = cc

module _ (kept : RefusalsLeaveAll) (d : RegisterState) (m : Objects) (shown : AreShown m) where
  served_left : (op : Op) (issue : Issue) (new : RegisterState) (refusal : Refusal) → Granting d op issue new → (served op issue m).0 ≡ Refused refusal → KeepsAll op d new × ((served op issue m).1 ≡ m)
  served_left DropNode issue new refusal left e = absurd (cc)
  served_left op issue new refusal left e = (left.0, run_kept kept m shown issue.grant op issue.left left.1 refusal e)

  same_register : (op : Op) (new : RegisterState) → new ≡ passed d → KeepsAll op d new
  same_register op new e = subst (KeepsAll op d) (sym e) (record { catalogue = refl; run = refl; places = refl; serial = inl refl })

  refused_left : (op : Op) (p : Verdict × RegisterState) (refusal : Refusal) → Leaving d op p → (by_verdict op p.0 m).0 ≡ Replied (Refused refusal)
      → KeepsAll op d p.1 × ((by_verdict op p.0 m).1 ≡ m)
  refused_left op (verdict.Granted issue, new) refusal left e = served_left op issue new refusal left (answer_in _ refusal e)
  refused_left op (verdict.Answered answer, new) refusal left e = absurd (refused_done answer refusal (answer_in answer refusal e) left)
  refused_left op (verdict.Denied right, new) refusal left e = absurd (cc)
  refused_left op (verdict.Refused other, new) refusal left e = (same_register op new left, refl)
  refused_left op (verdict.NoMemory, new) refusal left e = absurd (cc)

pub refusals_kept : RefusalsLeaveAll → RefusalsKeep
refusals_kept kept w caller request refusal shown e =
    refused_left kept w.register w.objects shown request.op (decided w.register caller request) refusal (decided_left w.register caller request) e
