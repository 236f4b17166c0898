-- When a request is denied, and when it finds no folder or domain.
use Rattle.std.proofs.Common.{◌≡◌, ℕ, ◌+◌, nat_lt, Bool, true, false, cond, is_some, List, Option, Some, None, option_map, refl, sym, ap, subst, ◌∙◌}
use Rattle.std.specs.FinMap.{contains_key, get, len}
use Rattle.std.proofs.lemmas.Bool.{false≢true}
use Rattle.std.proofs.lemmas.Option.{same_Some}
use Rattle.object_ids.specs.IdValues.{Id}
use Rattle.object_ids.specs.Paths.{parent_of}
use Rattle.object_ids.specs.declared.limits.LimitKind.TheVariants as limit
use Rattle.access_lists.specs.declared.people.Caller.{Caller}
use Rattle.access_lists.specs.declared.right.Right.{Right}
use Rattle.access_lists.specs.declared.rights.Rights.{Rights}
use Rattle.access_lists.specs.InForce.{has}
use Rattle.domains.specs.Changes.{is_folder as is_folder_there, make_fault, node_fault, number_fault, number_limit}
use Rattle.domains.specs.Contents.{class_at, is_domain, most_nodes}
use Rattle.domains.specs.declared.classes.Node.{Node}
use Rattle.domains.specs.declared.classes.NodeClass.{NodeClass}
use Rattle.domains.specs.declared.classes.NodeClass.TheVariants.{Folder, Domain}
use Rattle.domains.specs.declared.faults.CatFault.{CatFault}
use Rattle.domains.specs.declared.faults.CatFault.TheVariants as cat
use Rattle.object_ops.specs.Needs.{decided_at, on_for, path_on, right_for}
use Rattle.object_ops.specs.Parts.{id_of, kind_made}
use Rattle.object_ops.specs.declared.ops.LinkPlace.{LinkPlace}
use Rattle.object_ops.specs.declared.ops.Make.{Make}
use Rattle.object_ops.specs.declared.ops.Op.{Op}
use Rattle.object_ops.specs.declared.ops.Op.TheVariants.{GetNode, PutNode, Flush, DropNode, ListNodes, GetAcls, GetAcl, PutAcl, MakeObject}
use Rattle.object_ops.specs.declared.ops.Request.{Request}
use Rattle.object_ops.specs.declared.refusals.Refusal.TheVariants.{Limit, NoDomain}
use Rattle.register.specs.Decided.{RegisterState, at_maybe, decided, domain_made, entry_put, entry_read, fits, folder_made, foreign_in, granted, in_domain, is_folder, make_steps, most_of, node_made, node_removed, object_granted, one_step, owner_of, passed, refused, serial_limit}
use Rattle.register.specs.Laws.{DeniedExactly, IsDenied, IsMissing, NoDomainExactly}
use Rattle.register.specs.declared.verdicts.Verdict.{Verdict}
use Rattle.register.specs.declared.verdicts.Verdict.TheVariants.{Denied, Refused}

-- neither denied, nor refused for want of a folder or domain
abbrev IsServed : Verdict → Type 0
IsServed (Denied right) = ⊥
IsServed (Refused NoDomain) = ⊥
IsServed verdict = Unit {0}

-- ---- what the catalogue refuses where a node is there

made_or : Bool → Bool → Option CatFault
made_or taken few = cond taken (Some cat.Taken) (cond few None (Some (cat.Limit limit.Nodes)))

module _ (d : RegisterState) where
  folder_served : (path owner : List ℕ) (taken few : Bool) → IsServed (folder_made d path owner (made_or taken few)).0
  unfolding made_or
  folder_served path owner true few = tt
  folder_served path owner false true = tt
  folder_served path owner false false = tt

  few_served : (b : Bool) (a : Verdict × RegisterState) → IsServed a.0 → IsServed (cond b a (refused (Limit (most_of limit.Serial) limit.Serial) d)).0
  few_served true a h = h
  few_served false a h = tt

  numbered_served : (path owner : List ℕ) (taken few : Bool) (next : ℕ) (left : Bool)
      → nat_lt next number_limit ≡ left → IsServed (domain_made d path owner (number_fault (made_or taken few) next)).0
  unfolding made_or
  numbered_served path owner true few next left e = tt
  numbered_served path owner false false next left e = tt
  numbered_served path owner false true next true e =
      subst (λ (b : Bool). IsServed (domain_made d path owner (cond b None (Some (cat.Limit limit.Domain)))).0) (sym e) (few_served (nat_lt d.serial serial_limit) _ tt)
  numbered_served path owner false true next false e =
      subst (λ (b : Bool). IsServed (domain_made d path owner (cond b None (Some (cat.Limit limit.Domain)))).0) (sym e) tt

  made_fault : (path : List ℕ) → class_at d.catalogue (parent_of path) ≡ Some Folder
      → make_fault d.catalogue path ≡ made_or (contains_key d.catalogue.nodes path) (nat_lt (len d.catalogue.nodes) most_nodes)
  unfolding made_or
  made_fault path at = ap (λ (o : Option NodeClass). cond (is_folder_there o) (made_or (contains_key d.catalogue.nodes path) (nat_lt (len d.catalogue.nodes) most_nodes)) (Some cat.NoFolder)) at

  node_served : (caller : Caller) (path : List ℕ) (folder : Bool) → class_at d.catalogue (parent_of path) ≡ Some Folder → IsServed (node_made d caller path folder).0
  node_served caller path true at =
      subst (λ (f : Option CatFault). IsServed (folder_made d path (owner_of caller) f).0) (sym (made_fault path at)) (folder_served path (owner_of caller) _ _)
  node_served caller path false at =
      subst (λ (f : Option CatFault). IsServed (domain_made d path (owner_of caller) (number_fault f d.catalogue.next)).0) (sym (made_fault path at))
      (numbered_served path (owner_of caller) _ _ d.catalogue.next _ refl)

  none_served : (path : List ℕ) (class : NodeClass) → IsServed (node_removed d path class None).0
  none_served path Folder = tt
  none_served path (Domain number root) = tt

  removed_served : (path : List ℕ) (class : NodeClass) (there children root : Bool) → there ≡ true
      → IsServed (node_removed d path class (cond there (cond children (Some cat.NotEmpty) (cond root (Some cat.Root) None)) (Some cat.NoDomain))).0
  removed_served path class true true root e = tt
  removed_served path class true false true e = tt
  removed_served path class true false false e = none_served path class
  removed_served path class false children root e = absurd (false≢true e)

  read_served : (name : List ℕ) (rights : Option Rights) → IsServed (entry_read d name rights).0
  read_served name None = tt
  read_served name (Some rights) = tt

  listed_served : (path name : List ℕ) (rights : Rights) (room : Bool) → IsServed (entry_put d path name rights (cond room None (Some (cat.Limit limit.Entries)))).0
  listed_served path name rights true = tt
  listed_served path name rights false = tt

  put_served : (path name : List ℕ) (rights : Rights) (there : Option Node) (node : Node) → there ≡ Some node → IsServed (entry_put d path name rights (node_fault there name)).0
  put_served path name rights None node e = absurd (cc)
  put_served path name rights (Some other) node e = listed_served path name rights _

  -- ---- objects

  steps_served : (number : ℕ) (root fresh : Id) (place : Option LinkPlace) → IsServed (make_steps (record d { serial = d.serial + 1 }) number root fresh place).0
  steps_served number root fresh None = tt
  steps_served number root fresh (Some place) = tt

  make_served : (make : Make) (place : Option LinkPlace) (class : NodeClass) → is_domain class ≡ true → IsServed (in_domain d (MakeObject make place) class).0
  make_served make place Folder fit = absurd (false≢true fit)
  make_served make place (Domain number root) fit =
      few_served (nat_lt d.serial serial_limit) (make_steps (record d { serial = d.serial + 1 }) number root (record { kind = kind_made make; domain = number; run = d.run; serial = d.serial }) place)
      (steps_served number root (record { kind = kind_made make; domain = number; run = d.run; serial = d.serial }) place)

  object_served : (op : Op) (number : ℕ) (root : Id) (foreign : Option Id) (id : Id) → id_of op ≡ Some id → IsServed (object_granted d number root op foreign).0
  object_served op number root None id e = subst (λ (o : Option Id). IsServed (one_step d number root o).0) (sym e) tt
  object_served op number root (Some target) id e = tt

  in_served : (op : Op) (class : NodeClass) (id : Id → Id) → is_domain class ≡ true → ((root : Id) → id_of op ≡ Some (id root)) → IsServed (in_domain d op class).0
  in_served op Folder id fit named = absurd (false≢true fit)
  in_served (MakeObject make place) (Domain number root) id fit named = make_served make place (Domain number root) fit
  in_served op (Domain number root) id fit named = object_served op number root (foreign_in number op) (id root) (named root)

  -- ---- the whole

  or_else : Id → Option Id → Id
  or_else other None = other
  or_else other (Some id) = id

  folder_of : (path : List ℕ) (node : Node) → get d.catalogue.nodes path ≡ Some node → is_folder node.class ≡ true → class_at d.catalogue path ≡ Some Folder
  folder_of path node at fit = ap (option_map (λ (n : Node). n.class)) at ∙ ap Some (folder_class node.class fit) where
    folder_class : (class : NodeClass) → is_folder class ≡ true → class ≡ Folder
    folder_class Folder e = refl
    folder_class (Domain number root) e = absurd (false≢true e)

  granted_served : (caller : Caller) (path : List ℕ) (op : Op) (node : Node) → get d.catalogue.nodes (path_on (on_for op) path) ≡ Some node → fits op node.class ≡ true
      → IsServed (granted d caller path op node).0
  unfolding or_else
  granted_served caller path GetNode node at fit = tt
  granted_served caller path (PutNode folder) node at fit = node_served caller path folder (folder_of (parent_of path) node at fit)
  granted_served caller path Flush node at fit = tt
  granted_served caller path DropNode node at fit = removed_served path node.class (contains_key d.catalogue.nodes path) _ _ (ap is_some at)
  granted_served caller path ListNodes node at fit = tt
  granted_served caller path GetAcls node at fit = tt
  granted_served caller path (GetAcl name) node at fit = read_served name (get node.list name)
  granted_served caller path (PutAcl name rights) node at fit = put_served path name rights (get d.catalogue.nodes path) node at
  granted_served caller path (MakeObject make place) node at fit = make_served make place node.class fit
  granted_served caller path op node at fit = in_served op node.class (λ root. or_else root (id_of op)) fit (λ root. refl)

-- ---- which verdict comes

data Met (d : RegisterState) (caller : Caller) (request : Request) (v : Verdict) : Type 0 where
  missing : IsMissing d request → v ≡ Refused NoDomain → Met d caller request v
  denied : IsDenied d caller request → v ≡ Denied (right_for request.op) → Met d caller request v
  served : (node : Node) → get d.catalogue.nodes (decided_at request) ≡ Some node → fits request.op node.class ≡ true → has node.list caller (right_for request.op) ≡ true
      → IsServed v → Met d caller request v

module _ (d : RegisterState) (caller : Caller) (request : Request) where
  judged : (node : Node) → get d.catalogue.nodes (decided_at request) ≡ Some node → (fit right : Bool) → fits request.op node.class ≡ fit → has node.list caller (right_for request.op) ≡ right
      → Met d caller request (cond fit (cond right (granted d caller request.path request.op node) (Denied (right_for request.op), passed d)) (refused NoDomain d)).0
  judged node at true true fit right = served node at fit right (granted_served d caller request.path request.op node at fit)
  judged node at true false fit right = denied (record { node = node; there = at; wanted = fit; list = right }) refl
  judged node at false right fit e = missing (λ other there wanted.
      let same = same_Some node other (sym at ∙ there) in
      false≢true (sym fit ∙ ap (λ (n : Node). fits request.op n.class) same ∙ wanted)) refl

  met_at : (m : Option Node) → get d.catalogue.nodes (decided_at request) ≡ m → Met d caller request (at_maybe d caller request.path request.op m).0
  met_at None e = missing (λ node there wanted. absurd (let none : None ≡ Some node = sym e ∙ there in cc)) refl
  met_at (Some node) e = judged node e _ _ refl refl

  met : Met d caller request (decided d caller request).0
  met = met_at (get d.catalogue.nodes (decided_at request)) refl

  -- the node that is denied is there, and of the wanted class
  not_missing : IsDenied d caller request → IsMissing d request → ⊥
  not_missing h none = none h.node h.there h.wanted

  not_served : IsDenied d caller request → (node : Node) → get d.catalogue.nodes (decided_at request) ≡ Some node → has node.list caller (right_for request.op) ≡ true → ⊥
  not_served h node at right =
      let same = same_Some h.node node (sym h.there ∙ at) in
      false≢true (sym h.list ∙ ap (λ (n : Node). has n.list caller (right_for request.op)) same ∙ right)

  denied_so : (v : Verdict) (right : Right) → Met d caller request v → v ≡ Denied right → (right ≡ right_for request.op) × IsDenied d caller request
  denied_so v right (missing none is) e = absurd (let both : Refused NoDomain ≡ Denied right = sym is ∙ e in cc)
  denied_so v right (denied h is) e = ((let both : Denied right ≡ Denied (right_for request.op) = sym e ∙ is in cc), h)
  denied_so v right (served node at fit has so) e = absurd (subst IsServed e so)

  so_denied : (v : Verdict) (right : Right) → Met d caller request v → right ≡ right_for request.op → IsDenied d caller request → v ≡ Denied right
  so_denied v right (missing none is) same h = absurd (not_missing h none)
  so_denied v right (denied _ is) same h = is ∙ ap (λ (r : Right). Denied r) (sym same)
  so_denied v right (served node at fit has so) same h = absurd (not_served h node at has)

  missing_so : (v : Verdict) → Met d caller request v → v ≡ Refused NoDomain → IsMissing d request
  missing_so v (missing none is) e = none
  missing_so v (denied h is) e = absurd (let both : Denied (right_for request.op) ≡ Refused NoDomain = sym is ∙ e in cc)
  missing_so v (served node at fit has so) e = absurd (subst IsServed e so)

  so_missing : (v : Verdict) → Met d caller request v → IsMissing d request → v ≡ Refused NoDomain
  so_missing v (missing _ is) none = is
  so_missing v (denied h is) none = absurd (not_missing h none)
  so_missing v (served node at fit has so) none = absurd (none node at fit)

pub denied_exactly : DeniedExactly
denied_exactly d caller request right =
    let m = met d caller request in
    (denied_so d caller request _ right m, λ h. so_denied d caller request _ right m h.0 h.1)

pub no_domain_exactly : NoDomainExactly
no_domain_exactly d caller request =
    let m = met d caller request in
    (missing_so d caller request _ m, so_missing d caller request _ m)
