-- What every decision leaves: its tickets are the next ones, its grant is of the domain at the path, and run and lanes stay.
use Rattle.std.proofs.Common.{◌≡◌, ⊎_elim, ℕ, suc, ◌+◌, ◌<◌, max, nat_lt, Bool, true, false, cond, List, [], ◌∷◌, ◌++◌, length, Option, Some, None, option_map, refl, sym, ap, subst, ◌∙◌, arith, append_assoc, length-append}
use Rattle.std.specs.Prelude.{slice_set}
use Rattle.std.specs.FinMap.{get}
use Rattle.std.proofs.Math.Nat.{le-max_left, le-max_right}
use Rattle.std.proofs.Math.Seq.{get_or-append_seam, set-append_seam}
use Rattle.serde_json.specs.Data.{Data}
use Rattle.object_ids.specs.IdValues.{Id}
use Rattle.object_ids.specs.declared.limits.LimitKind.TheVariants as limit
use Rattle.access_lists.specs.declared.people.Caller.{Caller}
use Rattle.access_lists.specs.declared.rights.Rights.{Rights}
use Rattle.access_lists.specs.InForce.{has}
use Rattle.domains.specs.Changes.{domain_fault, entry_fault, make_fault, new_domain, new_node, remove_fault, root_of, with_entry, without_node}
use Rattle.domains.specs.Contents.{IsDomainAt, class_at, with_node}
use Rattle.domains.specs.NodeTrees.{node_tree}
use Rattle.domains.specs.declared.classes.Node.{Node}
use Rattle.domains.specs.declared.classes.NodeClass.{NodeClass}
use Rattle.domains.specs.declared.classes.NodeClass.TheVariants.{Folder, Domain}
use Rattle.domains.specs.declared.faults.CatFault.{CatFault}
use Rattle.object_ops.specs.Needs.{decided_at, on_for, path_on, right_for}
use Rattle.object_ops.specs.Parts.{id_of, kind_made}
use Rattle.object_ops.specs.declared.ops.LinkPlace.{LinkPlace}
use Rattle.object_ops.specs.declared.ops.Make.{Make}
use Rattle.object_ops.specs.declared.ops.Op.{Op}
use Rattle.object_ops.specs.declared.ops.Op.TheVariants.{GetNode, PutNode, Flush, DropNode, ListNodes, GetAcls, GetAcl, PutAcl, MakeObject}
use Rattle.object_ops.specs.declared.ops.Request.{Request}
use Rattle.object_ops.specs.declared.refusals.Refusal.TheVariants.{Limit, NoDomain}
use Rattle.object_ops.specs.declared.replies.Reply.TheVariants.{Done}
use Rattle.register.specs.Decided.{Decides, RegisterState, at_maybe, changed_at, decided, domain_added, domain_made, entry_put, entry_read, fits, folder_made, foreign_in, granted, in_domain, make_steps, most_of, node_made, node_removed, object_granted, one_step, owner_of, passed, refused, serial_limit}
use Rattle.register.specs.Grants.{IfGranted, IsGrantOf, turns_of}
use Rattle.register.specs.Laws.{CallsLeave, Continues, DecisionsContinue, DecisionsIssue, GrantsAreOfDomains, StoodOrIsNew, is_new, stood}
use Rattle.register.specs.Tickets.{Issues, all_counted, turns_from}
use Rattle.register.specs.declared.verdicts.Verdict.{Verdict}
use Rattle.register.specs.declared.verdicts.Verdict.TheVariants.{Granted, Answered, Denied, Refused, NoMemory}
use Rattle.register.proofs.Counting.{length-counted}
use Rattle.register.proofs.Roots.{entry_class, put_domain_was, was_class}

-- ---- a ticket of each lane

pub length-all_counted : (counts : List ℕ) → length (all_counted counts) ≡ length counts
length-all_counted [] = refl
length-all_counted (n ∷ ns) = ap suc (length-all_counted ns)

one_more : (front : List ℕ) (n : ℕ) (ns : List ℕ) → Issues ((front ++ (n + 1) ∷ []) ++ ns) (turns_from (length (front ++ (n + 1) ∷ [])) ns) ((front ++ (n + 1) ∷ []) ++ all_counted ns)
    → Issues (slice_set (front ++ n ∷ ns) (length front) (n + 1)) (turns_from (length front + 1) ns) (front ++ (n + 1) ∷ all_counted ns)
one_more front n ns h =
    subst (λ (counts : List ℕ). Issues counts (turns_from (length front + 1) ns) (front ++ (n + 1) ∷ all_counted ns)) (sym seam)
    (subst (λ (after : List ℕ). Issues ((front ++ one) ++ ns) (turns_from (length front + 1) ns) after) (append_assoc front one (all_counted ns))
    (subst (λ (lane : ℕ). Issues ((front ++ one) ++ ns) (turns_from lane ns) ((front ++ one) ++ all_counted ns)) long h))
  where
    one : List ℕ
    one = (n + 1) ∷ []

    seam : slice_set (front ++ n ∷ ns) (length front) (n + 1) ≡ (front ++ one) ++ ns
    seam = set-append_seam front n ns (n + 1) ∙ sym (append_assoc front one ns)

    long : length (front ++ one) ≡ length front + 1
    long = length-append front one

-- those in front were given before
each_issues : (front rest : List ℕ) → Issues (front ++ rest) (turns_from (length front) rest) (front ++ all_counted rest)
each_issues front [] = refl
each_issues front (n ∷ ns) = (
  sym (get_or-append_seam front n ns 0),
  one_more front n ns (each_issues (front ++ (n + 1) ∷ []) ns),
)

pub drawn_issues : (counts : List ℕ) → Issues counts (turns_from 0 counts) (all_counted counts)
drawn_issues counts = each_issues [] counts

-- ---- decisions

pub record Leaves (d : RegisterState) (path : List ℕ) (p : Verdict × RegisterState) : Type 0 where
  pub continues : Continues d p.1
  pub issues : Issues d.issued (turns_of p.0) p.1.issued
  pub grant : IfGranted p.0 (IsGrantOf d p.1 path)

module _ (d : RegisterState) (path : List ℕ) where
  -- the place alone was taken
  same : Continues d (passed d)
  same = record { run = refl; lanes = refl; serial = omega arith; next = omega arith; domains = λ q number root at. stood at }

  -- ---- no domain comes of nothing

  folder_domains : (owner q : List ℕ) (number : ℕ) (root : Id) → IsDomainAt (with_node d.catalogue path (new_node Folder owner)) q number root
      → StoodOrIsNew d (passed (changed_at d path (with_node d.catalogue path (new_node Folder owner)))) q number root
  folder_domains owner q number root at =
      ⊎_elim (λ e. absurd (let none : Folder ≡ Domain number root = e in cc)) (λ was. stood was) (put_domain_was d.catalogue path (new_node Folder owner) q number root at)

  made_domains : (owner q : List ℕ) (number : ℕ) (root : Id) → IsDomainAt (domain_added d path owner).catalogue q number root
      → StoodOrIsNew d (passed (domain_added d path owner)) q number root
  made_domains owner q number root at =
      let node : Node = new_domain d.catalogue.next d.run d.serial owner in
      ⊎_elim
      (λ e. let same : Domain d.catalogue.next (root_of d.catalogue.next d.run d.serial) ≡ Domain number root = e in
      is_new (let n : number ≡ d.catalogue.next = cc in n) (let r : root ≡ root_of d.catalogue.next d.run d.serial = cc in r) refl more)
      (λ was. stood was)
      (put_domain_was d.catalogue path node q number root at)
    where
      more : d.catalogue.next < max d.catalogue.next (d.catalogue.next + 1)
      more = omega (arith, le-max_right d.catalogue.next (d.catalogue.next + 1))

  left_domains : (q : List ℕ) (number : ℕ) (root : Id) → IsDomainAt (without_node d.catalogue path) q number root → IsDomainAt d.catalogue q number root
  left_domains q number root at = was_class d.catalogue path q (Domain number root) at

  listed_domains : (name : List ℕ) (rights : Rights) (q : List ℕ) (number : ℕ) (root : Id) → IsDomainAt (with_entry d.catalogue path name rights) q number root
      → IsDomainAt d.catalogue q number root
  listed_domains name rights q number root at = sym (entry_class d.catalogue path name rights (get d.catalogue.nodes path) refl q) ∙ at

  -- ---- folders, domains and access lists

  folder_leaves : (owner : List ℕ) (fault : Option CatFault) → Leaves d path (folder_made d path owner fault)
  folder_leaves owner None = record { continues = record { run = refl; lanes = refl; serial = omega arith; next = omega arith; domains = folder_domains owner }; issues = refl; grant = tt }
  folder_leaves owner (Some fault) = record { continues = same; issues = refl; grant = tt }

  new_domain_leaves : (owner : List ℕ) (few : Bool) → Leaves d path (let node = new_domain d.catalogue.next d.run d.serial owner in
      cond few (Answered (Done 201 (node_tree node)), passed (domain_added d path owner)) (refused (Limit (most_of limit.Serial) limit.Serial) d))
  new_domain_leaves owner true = record {
    continues = record { run = refl; lanes = refl; serial = omega arith; next = le-max_left d.catalogue.next (d.catalogue.next + 1); domains = made_domains owner };
    issues = refl;
    grant = tt;
  }
  new_domain_leaves owner false = record { continues = same; issues = refl; grant = tt }

  domain_leaves : (owner : List ℕ) (fault : Option CatFault) → Leaves d path (domain_made d path owner fault)
  domain_leaves owner None = new_domain_leaves owner (nat_lt d.serial serial_limit)
  domain_leaves owner (Some fault) = record { continues = same; issues = refl; grant = tt }

  node_leaves : (caller : Caller) (folder : Bool) → Leaves d path (node_made d caller path folder)
  node_leaves caller true = folder_leaves (owner_of caller) (make_fault d.catalogue path)
  node_leaves caller false = domain_leaves (owner_of caller) (domain_fault d.catalogue path)

  removed_leaves : (class : NodeClass) (fault : Option CatFault) → class_at d.catalogue path ≡ Some class → Leaves d path (node_removed d path class fault)
  removed_leaves Folder None at = record { continues = record { run = refl; lanes = refl; serial = omega arith; next = omega arith; domains = λ q number root at. stood (left_domains q number root at) }; issues = refl; grant = tt }
  removed_leaves (Domain number root) None at = record {
    continues = record { run = refl; lanes = length-all_counted d.issued; serial = omega arith; next = omega arith; domains = λ q number root at. stood (left_domains q number root at) };
    issues = drawn_issues d.issued;
    grant = record { domain = at; run = refl; serial = refl };
  }
  removed_leaves class (Some fault) at = record { continues = same; issues = refl; grant = tt }

  read_leaves : (name : List ℕ) (rights : Option Rights) → Leaves d path (entry_read d name rights)
  read_leaves name None = record { continues = same; issues = refl; grant = tt }
  read_leaves name (Some rights) = record { continues = same; issues = refl; grant = tt }

  put_leaves : (name : List ℕ) (rights : Rights) (fault : Option CatFault) → Leaves d path (entry_put d path name rights fault)
  put_leaves name rights None = record { continues = record { run = refl; lanes = refl; serial = omega arith; next = omega arith; domains = λ q number root at. stood (listed_domains name rights q number root at) }; issues = refl; grant = tt }
  put_leaves name rights (Some fault) = record { continues = same; issues = refl; grant = tt }

  -- ---- objects

  step_leaves : (number : ℕ) (root : Id) (id : Option Id) → class_at d.catalogue path ≡ Some (Domain number root) → Leaves d path (one_step d number root id)
  step_leaves number root None at = record { continues = same; issues = refl; grant = tt }
  step_leaves number root (Some id) at = record {
    continues = record { run = refl; lanes = length-counted d.issued id; serial = omega arith; next = omega arith; domains = λ q number root at. stood at };
    issues = (refl, refl);
    grant = record { domain = at; run = refl; serial = refl };
  }

  object_leaves : (op : Op) (number : ℕ) (root : Id) (foreign : Option Id) → class_at d.catalogue path ≡ Some (Domain number root) → Leaves d path (object_granted d number root op foreign)
  object_leaves op number root None at = step_leaves number root (id_of op) at
  object_leaves op number root (Some target) at = record { continues = same; issues = refl; grant = tt }

  make_leaves : (number : ℕ) (root fresh : Id) (place : Option LinkPlace) → class_at d.catalogue path ≡ Some (Domain number root)
      → Leaves d path (make_steps (record d { serial = d.serial + 1 }) number root fresh place)
  make_leaves number root fresh None at = record {
    continues = record { run = refl; lanes = length-counted d.issued fresh; serial = omega arith; next = omega arith; domains = λ q number root at. stood at };
    issues = (refl, refl);
    grant = record { domain = at; run = refl; serial = refl };
  }
  make_leaves number root fresh (Some place) at = record {
    continues = record { run = refl; lanes = length-counted _ fresh ∙ length-counted d.issued place.group; serial = omega arith; next = omega arith; domains = λ q number root at. stood at };
    issues = (refl, (refl, refl));
    grant = record { domain = at; run = refl; serial = refl };
  }

  make_or : (make : Make) (number : ℕ) (root : Id) (place : Option LinkPlace) (few : Bool) → class_at d.catalogue path ≡ Some (Domain number root)
      → Leaves d path (cond few (make_steps (record d { serial = d.serial + 1 }) number root (record { kind = kind_made make; domain = number; run = d.run; serial = d.serial }) place)
      (refused (Limit (most_of limit.Serial) limit.Serial) d))
  make_or make number root place true at = make_leaves number root (record { kind = kind_made make; domain = number; run = d.run; serial = d.serial }) place at
  make_or make number root place false at = record { continues = same; issues = refl; grant = tt }

  in_leaves : (op : Op) (class : NodeClass) → class_at d.catalogue path ≡ Some class → Leaves d path (in_domain d op class)
  in_leaves op Folder at = record { continues = same; issues = refl; grant = tt }
  in_leaves (MakeObject make place) (Domain number root) at = make_or make number root place (nat_lt d.serial serial_limit) at
  in_leaves op (Domain number root) at = object_leaves op number root (foreign_in number op) at

  -- ---- the whole

  plain_leaves : (status : ℕ) (body : Data) → Leaves d path (Answered (Done status body), passed d)
  plain_leaves status body = record { continues = same; issues = refl; grant = tt }

  granted_leaves : (caller : Caller) (op : Op) (node : Node) → get d.catalogue.nodes (path_on (on_for op) path) ≡ Some node → Leaves d path (granted d caller path op node)
  granted_leaves caller GetNode node at = plain_leaves _ _
  granted_leaves caller (PutNode folder) node at = node_leaves caller folder
  granted_leaves caller Flush node at = plain_leaves _ _
  granted_leaves caller DropNode node at = removed_leaves node.class (remove_fault d.catalogue path) (ap (option_map (λ (n : Node). n.class)) at)
  granted_leaves caller ListNodes node at = plain_leaves _ _
  granted_leaves caller GetAcls node at = plain_leaves _ _
  granted_leaves caller (GetAcl name) node at = read_leaves name (get node.list name)
  granted_leaves caller (PutAcl name rights) node at = put_leaves name rights (entry_fault d.catalogue path name)
  granted_leaves caller op node at = in_leaves op node.class (ap (option_map (λ (n : Node). n.class)) at)

  judged_leaves : (caller : Caller) (op : Op) (node : Node) (fit right : Bool) → get d.catalogue.nodes (path_on (on_for op) path) ≡ Some node
      → Leaves d path (cond fit (cond right (granted d caller path op node) (Denied (right_for op), passed d)) (refused NoDomain d))
  judged_leaves caller op node true true at = granted_leaves caller op node at
  judged_leaves caller op node true false at = record { continues = same; issues = refl; grant = tt }
  judged_leaves caller op node false right at = record { continues = same; issues = refl; grant = tt }

  at_leaves : (caller : Caller) (op : Op) (node : Option Node) → get d.catalogue.nodes (path_on (on_for op) path) ≡ node → Leaves d path (at_maybe d caller path op node)
  at_leaves caller op None at = record { continues = same; issues = refl; grant = tt }
  at_leaves caller op (Some node) at = judged_leaves caller op node (fits op node.class) (has node.list caller (right_for op)) at

decided_leaves : (d : RegisterState) (caller : Caller) (request : Request) → Leaves d request.path (decided d caller request)
decided_leaves d caller request = at_leaves d request.path caller request.op (get d.catalogue.nodes (decided_at request)) refl

-- ---- the laws

pub continue : DecisionsContinue
continue d caller request = (decided_leaves d caller request).continues

pub issue : DecisionsIssue
issue d caller request = (decided_leaves d caller request).issues

pub of_domains : GrantsAreOfDomains
of_domains d caller request = (decided_leaves d caller request).grant

pub calls_leave : CallsLeave
calls_leave d caller request (Granted t) new h = ap (λ (p : Verdict × RegisterState). p.1) h
calls_leave d caller request (Answered r) new h = ap (λ (p : Verdict × RegisterState). p.1) h
calls_leave d caller request (Denied r) new h = ap (λ (p : Verdict × RegisterState). p.1) h
calls_leave d caller request (Refused r) new h = ap (λ (p : Verdict × RegisterState). p.1) h
calls_leave d caller request NoMemory new h = h.2

-- ---- what a call leaves

pub call_leaves : (d : RegisterState) (caller : Caller) (request : Request) (v : Verdict) (new : RegisterState) → Decides d caller request v new → Leaves d request.path (v, new)
call_leaves d caller request (Granted t) new h = subst (Leaves d request.path) (sym h) (decided_leaves d caller request)
call_leaves d caller request (Answered r) new h = subst (Leaves d request.path) (sym h) (decided_leaves d caller request)
call_leaves d caller request (Denied r) new h = subst (Leaves d request.path) (sym h) (decided_leaves d caller request)
call_leaves d caller request (Refused r) new h = subst (Leaves d request.path) (sym h) (decided_leaves d caller request)
call_leaves d caller request NoMemory new h =
    subst (λ (x : RegisterState). Leaves d request.path (NoMemory, x)) (sym h.2) (record { continues = same d request.path; issues = refl; grant = tt })
