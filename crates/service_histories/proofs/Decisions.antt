-- What every decision leaves: run and lanes stay, serials and numbers go on, and each domain stood before or is the one that was made.
use Rattle.std.proofs.Common.{◌≡◌, ℕ, suc, ◌+◌, ◌<◌, ◌≤◌, nat_lt, max, inl, inr, ◌⊎◌, ⊎_elim, Bool, true, false, cond, List, [], ◌∷◌, length, Option, Some, None, option_map, refl, sym, ap, ◌∙◌, arith}
use Rattle.std.specs.Cmp.{Equal-is}
use Rattle.std.specs.Cmp.Lexicographic.{nat_list_cmp_total}
use Rattle.std.specs.FinMap.{FinMap, get, insert, get-insert, get-remove}
use Rattle.std.specs.Ordering.{eq_by_cmp}
use Rattle.std.proofs.Math.Nat.{le-max_left, le-max_right}
use Rattle.std.proofs.lemmas.List.{length-set}
use Rattle.std.proofs.lemmas.Option.{none-some, same_Some}
use Rattle.containers.specs.TextMaps.Keyed.{text_order}
use Rattle.containers.proofs.TextMaps.KeyedMaps.{exact_texts}
use Rattle.object_ids.specs.IdValues.{Id}
use Rattle.object_ids.specs.declared.limits.LimitKind.TheVariants as limit
use Rattle.access_lists.specs.declared.people.Caller.{Caller}
use Rattle.access_lists.specs.declared.rights.Rights.{Rights}
use Rattle.access_lists.specs.InForce.{has}
use Rattle.domains.specs.Changes.{domain_fault, entry_fault, entry_put as entry_put_in, make_fault, new_domain, new_node, node_with, remove_fault, root_of, with_entry, without_node}
use Rattle.domains.specs.Contents.{Contents, IsDomainAt, class_at, with_node}
use Rattle.domains.specs.NodeTrees.{node_tree}
use Rattle.domains.specs.declared.classes.Node.{Node}
use Rattle.domains.specs.declared.classes.NodeClass.{NodeClass}
use Rattle.domains.specs.declared.classes.NodeClass.TheVariants.{Folder, Domain}
use Rattle.domains.specs.declared.faults.CatFault.{CatFault}
use Rattle.object_ops.specs.Needs.{decided_at, on_for, path_on, right_for}
use Rattle.object_ops.specs.Parts.{id_of, kind_made}
use Rattle.object_ops.specs.declared.ops.LinkPlace.{LinkPlace}
use Rattle.object_ops.specs.declared.ops.Make.{Make}
use Rattle.object_ops.specs.declared.ops.Op.{Op}
use Rattle.object_ops.specs.declared.ops.Op.TheVariants.{GetNode, PutNode, Flush, DropNode, ListNodes, GetAcls, GetAcl, PutAcl, MakeObject}
use Rattle.object_ops.specs.declared.ops.Request.{Request}
use Rattle.object_ops.specs.declared.refusals.Refusal.TheVariants.{Limit, NoDomain}
use Rattle.object_ops.specs.declared.replies.Reply.{Reply}
use Rattle.object_ops.specs.declared.replies.Reply.TheVariants.{Done}
use Rattle.register.specs.Decided.{RegisterState, at_maybe, changed_at, decided, domain_added, domain_made, entry_put, entry_read, fits, folder_made, foreign_in, granted, in_domain, make_steps, most_of, node_made, node_removed, object_granted, one_step, owner_of, passed, refused, serial_limit}
use Rattle.register.specs.Grants.{IfGranted}
use Rattle.register.specs.Tickets.{Issue, all_counted, counted}
use Rattle.register.specs.declared.verdicts.Verdict.{Verdict}
use Rattle.register.specs.declared.verdicts.Verdict.TheVariants.{Answered, Denied}

-- ---- counts

pub length-all_counted : (counts : List ℕ) → length (all_counted counts) ≡ length counts
length-all_counted [] = refl
length-all_counted (n ∷ ns) = ap suc (length-all_counted ns)

length-counted : (counts : List ℕ) (id : Id) → length (counted counts id) ≡ length counts
length-counted counts id = length-set counts _ _

-- ---- domains

-- it stood there before; or it has the next number, and its root the next serial
pub data IsOldOrNew (d new : RegisterState) (path : List ℕ) (number : ℕ) (root : Id) : Type 0 where
  stood : IsDomainAt d.catalogue path number root → IsOldOrNew d new path number root
  made : number ≡ d.catalogue.next → root ≡ root_of d.catalogue.next d.run d.serial → new.serial ≡ d.serial + 1 → d.catalogue.next < new.catalogue.next
      → IsOldOrNew d new path number root

-- the run and the lanes stay, serials and numbers that were given stay so, and no domain comes of nothing
pub record Continues (d new : RegisterState) : Type 0 where
  pub run : new.run ≡ d.run
  pub lanes : length new.issued ≡ length d.issued
  pub serial : d.serial ≤ new.serial
  pub next : d.catalogue.next ≤ new.catalogue.next
  pub domains : (path : List ℕ) (number : ℕ) (root : Id) → IsDomainAt new.catalogue path number root → IsOldOrNew d new path number root

-- it is of the domain that stood at the path, and tells the next serial that the register has afterwards
pub record IsGrantOf (d new : RegisterState) (path : List ℕ) (issue : Issue) : Type 0 where
  pub domain : IsDomainAt d.catalogue path issue.grant.number issue.grant.root
  pub serial : issue.grant.serial ≡ new.serial

abbrev class_of : Option Node → Option NodeClass
class_of o = option_map (λ (n : Node). n.class) o

put_or : (b : Bool) (node : Node) (o : Option Node) (class : NodeClass) → class_of (cond b (Some node) o) ≡ Some class → (node.class ≡ class) ⊎ (class_of o ≡ Some class)
put_or true node o class e = inl (same_Some node.class class e)
put_or false node o class e = inr e

-- what stands after a node is put is that node, or stood before
put_was : (nodes : FinMap text_order Node) (path : List ℕ) (node : Node) (q : List ℕ) (class : NodeClass) → class_of (get (insert nodes path node) q) ≡ Some class
    → (node.class ≡ class) ⊎ (class_of (get nodes q) ≡ Some class)
put_was nodes path node q class e =
    put_or (eq_by_cmp text_order q path) node (get nodes q) class (sym (ap class_of (get-insert nat_list_cmp_total nodes path node q)) ∙ e)

gone_or : (b : Bool) (o : Option Node) (class : NodeClass) → class_of (cond b None o) ≡ Some class → class_of o ≡ Some class
gone_or true o class e = absurd (none-some class e)
gone_or false o class e = e

removed_was : (c : Contents) (path q : List ℕ) (class : NodeClass) → class_at (without_node c path) q ≡ Some class → class_at c q ≡ Some class
removed_was c path q class e =
    gone_or (eq_by_cmp text_order q path) (get c.nodes q) class (sym (ap class_of (get-remove nat_list_cmp_total c.nodes path q)) ∙ e)

-- an entry changes no class
entry_or : (b : Bool) (node : Node) (o : Option Node) (name : List ℕ) (rights : Rights) (class : NodeClass) → (b ≡ true → o ≡ Some node)
    → class_of (cond b (Some (node_with node name rights)) o) ≡ Some class → class_of o ≡ Some class
entry_or true node o name rights class same e = ap class_of (same refl) ∙ e
entry_or false node o name rights class same e = e

entry_was : (c : Contents) (path name : List ℕ) (rights : Rights) (q : List ℕ) (class : NodeClass) (o : Option Node) → get c.nodes path ≡ o
    → class_of (get (entry_put_in c.nodes path o name rights) q) ≡ Some class → class_at c q ≡ Some class
entry_was c path name rights q class None at e = e
entry_was c path name rights q class (Some node) at e =
    entry_or (eq_by_cmp text_order q path) node (get c.nodes q) name rights class
    (λ tie. ap (get c.nodes) (exact_texts q path ((Equal-is (text_order q path)).0 tie)) ∙ at)
    (sym (ap class_of (get-insert nat_list_cmp_total c.nodes path (node_with node name rights) q)) ∙ e)

-- ---- decisions

pub record Leaves (d : RegisterState) (path : List ℕ) (p : Verdict × RegisterState) : Type 0 where
  pub continues : Continues d p.1
  pub grant : IfGranted p.0 (IsGrantOf d p.1 path)

module _ (d : RegisterState) (path : List ℕ) where
  -- the place alone was taken
  same : Continues d (passed d)
  same = record { run = refl; lanes = refl; serial = omega arith; next = omega arith; domains = λ q number root at. stood at }

  folder_domains : (owner : List ℕ) (q : List ℕ) (number : ℕ) (root : Id) → IsDomainAt (with_node d.catalogue path (new_node Folder owner)) q number root
      → IsOldOrNew d (passed (changed_at d path (with_node d.catalogue path (new_node Folder owner)))) q number root
  folder_domains owner q number root at =
      ⊎_elim (λ e. absurd (let none : Folder ≡ Domain number root = e in cc)) (λ was. stood was) (put_was d.catalogue.nodes path (new_node Folder owner) q (Domain number root) at)

  made_domains : (owner : List ℕ) (q : List ℕ) (number : ℕ) (root : Id) → IsDomainAt (domain_added d path owner).catalogue q number root
      → IsOldOrNew d (passed (domain_added d path owner)) q number root
  made_domains owner q number root at =
      let node = new_domain d.catalogue.next d.run d.serial owner in
      ⊎_elim
      (λ e. let same : Domain d.catalogue.next (root_of d.catalogue.next d.run d.serial) ≡ Domain number root = e in
      made (let n : number ≡ d.catalogue.next = cc in n) (let r : root ≡ root_of d.catalogue.next d.run d.serial = cc in r) refl more)
      (λ was. stood was)
      (put_was d.catalogue.nodes path node q (Domain number root) at)
    where
      more : d.catalogue.next < max d.catalogue.next (d.catalogue.next + 1)
      more = let right = le-max_right d.catalogue.next (d.catalogue.next + 1) in omega (arith, right)

  left_domains : (q : List ℕ) (number : ℕ) (root : Id) → IsDomainAt (without_node d.catalogue path) q number root → {new : RegisterState} → IsOldOrNew d new q number root
  left_domains q number root at = stood (removed_was d.catalogue path q (Domain number root) at)

  entry_domains : (name : List ℕ) (rights : Rights) (q : List ℕ) (number : ℕ) (root : Id) → IsDomainAt (with_entry d.catalogue path name rights) q number root
      → {new : RegisterState} → IsOldOrNew d new q number root
  entry_domains name rights q number root at = stood (entry_was d.catalogue path name rights q (Domain number root) (get d.catalogue.nodes path) refl at)

  folder_leaves : (owner : List ℕ) (fault : Option CatFault) → Leaves d path (folder_made d path owner fault)
  folder_leaves owner None = record { continues = record { run = refl; lanes = refl; serial = omega arith; next = omega arith; domains = folder_domains owner }; grant = tt }
  folder_leaves owner (Some fault) = record { continues = same; grant = tt }

  new_domain_leaves : (owner : List ℕ) (few : Bool) → Leaves d path (let node = new_domain d.catalogue.next d.run d.serial owner in
      cond few (Answered (Done 201 (node_tree node)), passed (domain_added d path owner)) (refused (Limit (most_of limit.Serial) limit.Serial) d))
  new_domain_leaves owner true = record {
    continues = record { run = refl; lanes = refl; serial = omega arith; next = le-max_left d.catalogue.next (d.catalogue.next + 1); domains = made_domains owner };
    grant = tt;
  }
  new_domain_leaves owner false = record { continues = same; grant = tt }

  domain_leaves : (owner : List ℕ) (fault : Option CatFault) → Leaves d path (domain_made d path owner fault)
  domain_leaves owner None = new_domain_leaves owner (nat_lt d.serial serial_limit)
  domain_leaves owner (Some fault) = record { continues = same; grant = tt }

  node_leaves : (caller : Caller) (folder : Bool) → Leaves d path (node_made d caller path folder)
  node_leaves caller true = folder_leaves (owner_of caller) (make_fault d.catalogue path)
  node_leaves caller false = domain_leaves (owner_of caller) (domain_fault d.catalogue path)

  removed_leaves : (class : NodeClass) (fault : Option CatFault) → class_at d.catalogue path ≡ Some class → Leaves d path (node_removed d path class fault)
  removed_leaves Folder None at = record { continues = record { run = refl; lanes = refl; serial = omega arith; next = omega arith; domains = λ q number root at. left_domains q number root at }; grant = tt }
  removed_leaves (Domain number root) None at = record {
    continues = record { run = refl; lanes = length-all_counted d.issued; serial = omega arith; next = omega arith; domains = λ q number root at. left_domains q number root at };
    grant = record { domain = at; serial = refl };
  }
  removed_leaves class (Some fault) at = record { continues = same; grant = tt }

  read_leaves : (name : List ℕ) (rights : Option Rights) → Leaves d path (entry_read d name rights)
  read_leaves name None = record { continues = same; grant = tt }
  read_leaves name (Some rights) = record { continues = same; grant = tt }

  put_leaves : (name : List ℕ) (rights : Rights) (fault : Option CatFault) → Leaves d path (entry_put d path name rights fault)
  put_leaves name rights None = record { continues = record { run = refl; lanes = refl; serial = omega arith; next = omega arith; domains = λ q number root at. entry_domains name rights q number root at }; grant = tt }
  put_leaves name rights (Some fault) = record { continues = same; grant = tt }

  -- ---- objects

  step_leaves : (number : ℕ) (root : Id) (id : Option Id) → class_at d.catalogue path ≡ Some (Domain number root) → Leaves d path (one_step d number root id)
  step_leaves number root None at = record { continues = same; grant = tt }
  step_leaves number root (Some id) at = record {
    continues = record { run = refl; lanes = length-counted d.issued id; serial = omega arith; next = omega arith; domains = λ q number root at. stood at };
    grant = record { domain = at; serial = refl };
  }

  object_leaves : (op : Op) (number : ℕ) (root : Id) (foreign : Option Id) → class_at d.catalogue path ≡ Some (Domain number root) → Leaves d path (object_granted d number root op foreign)
  object_leaves op number root None at = step_leaves number root (id_of op) at
  object_leaves op number root (Some target) at = record { continues = same; grant = tt }

  make_leaves : (number : ℕ) (root fresh : Id) (place : Option LinkPlace) → class_at d.catalogue path ≡ Some (Domain number root)
      → Leaves d path (make_steps (record d { serial = d.serial + 1 }) number root fresh place)
  make_leaves number root fresh None at = record {
    continues = record { run = refl; lanes = length-counted d.issued fresh; serial = omega arith; next = omega arith; domains = λ q number root at. stood at };
    grant = record { domain = at; serial = refl };
  }
  make_leaves number root fresh (Some place) at = record {
    continues = record { run = refl; lanes = length-counted _ fresh ∙ length-counted d.issued place.group; serial = omega arith; next = omega arith; domains = λ q number root at. stood at };
    grant = record { domain = at; serial = refl };
  }

  make_or : (make : Make) (number : ℕ) (root : Id) (place : Option LinkPlace) (few : Bool) → class_at d.catalogue path ≡ Some (Domain number root)
      → Leaves d path (cond few (make_steps (record d { serial = d.serial + 1 }) number root (record { kind = kind_made make; domain = number; run = d.run; serial = d.serial }) place)
      (refused (Limit (most_of limit.Serial) limit.Serial) d))
  make_or make number root place true at = make_leaves number root (record { kind = kind_made make; domain = number; run = d.run; serial = d.serial }) place at
  make_or make number root place false at = record { continues = same; grant = tt }

  in_leaves : (op : Op) (class : NodeClass) → class_at d.catalogue path ≡ Some class → Leaves d path (in_domain d op class)
  in_leaves op Folder at = record { continues = same; grant = tt }
  in_leaves (MakeObject make place) (Domain number root) at = make_or make number root place (nat_lt d.serial serial_limit) at
  in_leaves op (Domain number root) at = object_leaves op number root (foreign_in number op) at

  -- ---- the whole

  plain_leaves : (reply : Reply) → Leaves d path (Answered reply, passed d)
  plain_leaves reply = record { continues = same; grant = tt }

  granted_leaves : (caller : Caller) (op : Op) (node : Node) → get d.catalogue.nodes (path_on (on_for op) path) ≡ Some node → Leaves d path (granted d caller path op node)
  granted_leaves caller GetNode node at = plain_leaves _
  granted_leaves caller (PutNode folder) node at = node_leaves caller folder
  granted_leaves caller Flush node at = plain_leaves _
  granted_leaves caller DropNode node at = removed_leaves node.class (remove_fault d.catalogue path) (ap (option_map (λ (n : Node). n.class)) at)
  granted_leaves caller ListNodes node at = plain_leaves _
  granted_leaves caller GetAcls node at = plain_leaves _
  granted_leaves caller (GetAcl name) node at = read_leaves name (get node.list name)
  granted_leaves caller (PutAcl name rights) node at = put_leaves name rights (entry_fault d.catalogue path name)
  granted_leaves caller op node at = in_leaves op node.class (ap (option_map (λ (n : Node). n.class)) at)

  judged_leaves : (caller : Caller) (op : Op) (node : Node) (fit right : Bool) → get d.catalogue.nodes (path_on (on_for op) path) ≡ Some node
      → Leaves d path (cond fit (cond right (granted d caller path op node) (Denied (right_for op), passed d)) (refused NoDomain d))
  judged_leaves caller op node true true at = granted_leaves caller op node at
  judged_leaves caller op node true false at = record { continues = same; grant = tt }
  judged_leaves caller op node false right at = record { continues = same; grant = tt }

  at_leaves : (caller : Caller) (op : Op) (node : Option Node) → get d.catalogue.nodes (path_on (on_for op) path) ≡ node → Leaves d path (at_maybe d caller path op node)
  at_leaves caller op None at = record { continues = same; grant = tt }
  at_leaves caller op (Some node) at = judged_leaves caller op node (fits op node.class) (has node.list caller (right_for op)) at

pub decided_leaves : (d : RegisterState) (caller : Caller) (request : Request) → Leaves d request.path (decided d caller request)
decided_leaves d caller request = at_leaves d request.path caller request.op (get d.catalogue.nodes (decided_at request)) refl
