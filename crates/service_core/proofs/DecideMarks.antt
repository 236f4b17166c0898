-- What a decision marks, and that only what changes a node changes the catalogue.
use Rattle.std.proofs.Common.{◌≡◌, ◌⊎◌, inl, inr, ℕ, ◌+◌, ◌&&◌, ◌||◌, nat_lt, Bool, true, false, cond, List, Option, Some, None, is_some, refl, sym, ap, subst, ◌∙◌, true≢false}
use Rattle.std.specs.Cmp.Lexicographic.{nat_list_cmp_total}
use Rattle.std.specs.FinMap.{contains_key, get, get-insert, get-remove, insert}
use Rattle.std.specs.Ordering.{eq_by_cmp}
use Rattle.containers.specs.TextMaps.Keyed.{text_order}
use Rattle.containers.proofs.Passing.{by_bool}
use Rattle.containers.proofs.TextMaps.TextOrders.{same_key}
use Rattle.object_ids.specs.IdValues.{Id}
use Rattle.object_ids.specs.declared.limits.LimitKind.TheVariants as limit
use Rattle.access_lists.specs.declared.people.Caller.{Caller}
use Rattle.access_lists.specs.declared.rights.Rights.{Rights}
use Rattle.access_lists.specs.InForce.{has}
use Rattle.domains.specs.Changes.{domain_fault, entry_fault, entry_put as put_in, make_fault, new_domain, new_node, node_with, remove_fault, with_entry, without_node}
use Rattle.domains.specs.Contents.{Contents, with_node}
use Rattle.domains.specs.NodeTrees.{node_tree}
use Rattle.domains.specs.declared.classes.Node.{Node}
use Rattle.domains.specs.declared.classes.NodeClass.{NodeClass}
use Rattle.domains.specs.declared.classes.NodeClass.TheVariants.{Folder, Domain}
use Rattle.domains.specs.declared.faults.CatFault.{CatFault}
use Rattle.object_ops.specs.Needs.{decided_at, right_for}
use Rattle.object_ops.specs.Parts.{id_of, kind_made}
use Rattle.object_ops.specs.declared.ops.LinkPlace.{LinkPlace}
use Rattle.object_ops.specs.declared.ops.Make.{Make}
use Rattle.object_ops.specs.declared.ops.Op.{Op}
use Rattle.object_ops.specs.declared.ops.Op.TheVariants.{GetNode, PutNode, Flush, DropNode, ListNodes, GetAcls, GetAcl, PutAcl, MakeObject}
use Rattle.object_ops.specs.declared.ops.Request.{Request}
use Rattle.object_ops.specs.declared.refusals.Refusal.TheVariants.{Limit, NoDomain}
use Rattle.object_ops.specs.declared.replies.Reply.TheVariants.{Done}
use Rattle.object_records.specs.Keys.Keys.{node_key}
use Rattle.register.specs.Decided.{Decides, RegisterState, at_maybe, changed_at, decided, domain_added, domain_made, entry_put, entry_read, fits, folder_made, foreign_in, forgotten, granted, in_domain, make_steps, most_of, node_made, node_removed, object_granted, one_step, owner_of, passed, refused, serial_limit}
use Rattle.register.specs.Kept.{IsRegisterMarked, is_marked_in}
use Rattle.register.specs.Kept.IsRegisterMarked.{the_run, the_next, a_node}
use Rattle.register.specs.Marks.{with_domain, with_path}
use Rattle.register.specs.declared.verdicts.Verdict.{Verdict}
use Rattle.register.specs.declared.verdicts.Verdict.TheVariants.{Granted, Answered, Denied, Refused, NoMemory}
use Rattle.service_core.specs.Marking.{IsNodeMark, changes_node, is_allowed}
use Rattle.service_core.specs.Marking.IsNodeMark.{of_node, of_number}

-- what is marked was marked, or is the node's or the next number's; and only what changes a node changes the catalogue
pub record Marks (d : RegisterState) (request : Request) (p : Verdict × RegisterState) : Type 0 where
  pub alone : (key : List ℕ) → IsRegisterMarked p.1 key → IsRegisterMarked d key ⊎ IsNodeMark request p.0 key
  pub catalogue : changes_node request.op ≡ false → p.1.catalogue ≡ d.catalogue

-- ---- at all paths but one all is as it was

with_others : (c : Contents) (path : List ℕ) (node : Node) (q : List ℕ) → eq_by_cmp text_order q path ≡ false → get (insert c.nodes path node) q ≡ get c.nodes q
with_others c path node q apart = get-insert nat_list_cmp_total c.nodes path node q ∙ ap (λ b. cond b (Some node) (get c.nodes q)) apart

without_others : (c : Contents) (path q : List ℕ) → eq_by_cmp text_order q path ≡ false → get (without_node c path).nodes q ≡ get c.nodes q
without_others c path q apart = get-remove nat_list_cmp_total c.nodes path q ∙ ap (λ b. cond b None (get c.nodes q)) apart

entry_others : (c : Contents) (path name : List ℕ) (rights : Rights) (o : Option Node) (q : List ℕ) → eq_by_cmp text_order q path ≡ false → get (put_in c.nodes path o name rights) q ≡ get c.nodes q
entry_others c path name rights None q apart = refl
entry_others c path name rights (Some node) q apart = with_others c path (node_with node name rights) q apart

module _ (d : RegisterState) where
  -- nothing is marked but the places, serials and tickets
  same : (request : Request) (v : Verdict) (serial places : ℕ) (issued : List ℕ) → Marks d request (v, record d { serial = serial; places = places; issued = issued })
  same request v serial places issued = record { alone = λ key marked. inl (was key marked); catalogue = λ _. refl } where
    was : (key : List ℕ) → IsRegisterMarked (record d { serial = serial; places = places; issued = issued }) key → IsRegisterMarked d key
    was key (the_run on is) = the_run on is
    was key (the_next on is) = the_next on is
    was key (a_node path on is) = a_node path on is

  pub stays : (request : Request) (v : Verdict) → Marks d request (v, passed d)
  stays request v = same request v d.serial (d.places + 1) d.issued

  module _ (path : List ℕ) (c : Contents) (others : (q : List ℕ) → eq_by_cmp text_order q path ≡ false → get c.nodes q ≡ get d.catalogue.nodes q) where
    elsewhere : (q : List ℕ) → eq_by_cmp text_order q path ≡ false → is_marked_in c (with_path d.marks path) q ≡ is_marked_in d.catalogue d.marks q
    elsewhere q apart =
        ap (λ b. b || (d.marks.all && contains_key c.nodes q)) (ap is_some (get-insert nat_list_cmp_total d.marks.paths path true q) ∙ ap (λ x. is_some (cond x (Some true) (get d.marks.paths q))) apart)
        ∙ ap (λ (o : Option Node). contains_key d.marks.paths q || (d.marks.all && is_some o)) (others q apart)

    -- of the node at the path
    node_marked : (v : Verdict) (op : Op) (q key : List ℕ) → changes_node op ≡ true → is_allowed v ≡ true → is_marked_in c (with_path d.marks path) q ≡ true → key ≡ node_key q
        → IsRegisterMarked d key ⊎ IsNodeMark (record { path = path; op = op }) v key
    node_marked v op q key changes allowed on is = by_bool (eq_by_cmp text_order q path) (IsRegisterMarked d key ⊎ IsNodeMark (record { path = path; op = op }) v key)
        (λ tied. inr (of_node changes allowed (is ∙ ap node_key (same_key q path tied))))
        (λ apart. inl (a_node q (sym (elsewhere q apart) ∙ on) is))

    -- the node at the path is made, changed or removed
    changed_marks : (v : Verdict) (op : Op) (serial places : ℕ) (issued : List ℕ) → changes_node op ≡ true → is_allowed v ≡ true
        → Marks d (record { path = path; op = op }) (v, record d { catalogue = c; marks = with_path d.marks path; serial = serial; places = places; issued = issued })
    changed_marks v op serial places issued changes allowed = record { alone = at; catalogue = λ none. absurd (true≢false (sym changes ∙ none)) } where
      at : (key : List ℕ) → IsRegisterMarked (record d { catalogue = c; marks = with_path d.marks path; serial = serial; places = places; issued = issued }) key
          → IsRegisterMarked d key ⊎ IsNodeMark (record { path = path; op = op }) v key
      at key (the_run on is) = inl (the_run on is)
      at key (the_next on is) = inl (the_next on is)
      at key (a_node q on is) = node_marked v op q key changes allowed on is

    -- a domain is made there, which takes the next number
    domain_marks : (v : Verdict) (serial places : ℕ) (issued : List ℕ) → is_allowed v ≡ true
        → Marks d (record { path = path; op = PutNode false }) (v, record d { catalogue = c; marks = with_domain d.marks path; serial = serial; places = places; issued = issued })
    domain_marks v serial places issued allowed = record { alone = at; catalogue = λ none. absurd (true≢false none) } where
      at : (key : List ℕ) → IsRegisterMarked (record d { catalogue = c; marks = with_domain d.marks path; serial = serial; places = places; issued = issued }) key
          → IsRegisterMarked d key ⊎ IsNodeMark (record { path = path; op = PutNode false }) v key
      at key (the_run on is) = inl (the_run on is)
      at key (the_next on is) = inr (of_number refl allowed is)
      at key (a_node q on is) = node_marked v (PutNode false) q key refl allowed on is

  -- ---- folders and domains

  abbrev At : List ℕ → Op → Verdict × RegisterState → Type 0
  At path op p = Marks d (record { path = path; op = op }) p

  folder_marks : (path owner : List ℕ) (fault : Option CatFault) → At path (PutNode true) (folder_made d path owner fault)
  folder_marks path owner None =
      let node : Node = new_node Folder owner in
      changed_marks path (with_node d.catalogue path node) (with_others d.catalogue path node) _ (PutNode true) d.serial (d.places + 1) d.issued refl refl
  folder_marks path owner (Some fault) = stays _ _

  new_domain_marks : (path owner : List ℕ) (few : Bool) → At path (PutNode false) (let node = new_domain d.catalogue.next d.run d.serial owner in
      cond few (Answered (Done 201 (node_tree node)), passed (domain_added d path owner)) (refused (Limit (most_of limit.Serial) limit.Serial) d))
  new_domain_marks path owner true =
      let node : Node = new_domain d.catalogue.next d.run d.serial owner in
      domain_marks path (with_node d.catalogue path node) (with_others d.catalogue path node) _ (d.serial + 1) (d.places + 1) d.issued refl
  new_domain_marks path owner false = stays _ _

  made_marks : (path owner : List ℕ) (fault : Option CatFault) → At path (PutNode false) (domain_made d path owner fault)
  made_marks path owner None = new_domain_marks path owner (nat_lt d.serial serial_limit)
  made_marks path owner (Some fault) = stays _ _

  node_marks : (caller : Caller) (path : List ℕ) (folder : Bool) → At path (PutNode folder) (node_made d caller path folder)
  node_marks caller path true = folder_marks path (owner_of caller) (make_fault d.catalogue path)
  node_marks caller path false = made_marks path (owner_of caller) (domain_fault d.catalogue path)

  read_marks : (path name : List ℕ) (rights : Option Rights) → At path (GetAcl name) (entry_read d name rights)
  read_marks path name None = stays _ _
  read_marks path name (Some rights) = stays _ _

  put_marks : (path name : List ℕ) (rights : Rights) (fault : Option CatFault) → At path (PutAcl name rights) (entry_put d path name rights fault)
  put_marks path name rights None =
      changed_marks path (with_entry d.catalogue path name rights) (entry_others d.catalogue path name rights (get d.catalogue.nodes path)) _ (PutAcl name rights) d.serial (d.places + 1) d.issued refl refl
  put_marks path name rights (Some fault) = stays _ _

  -- of a removed domain the objects are dropped
  dropped_marks : (path : List ℕ) (class : NodeClass) → At path DropNode (forgotten (changed_at d path (without_node d.catalogue path)) class)
  dropped_marks path Folder = changed_marks path (without_node d.catalogue path) (without_others d.catalogue path) _ DropNode d.serial (d.places + 1) d.issued refl refl
  dropped_marks path (Domain number root) = changed_marks path (without_node d.catalogue path) (without_others d.catalogue path) _ DropNode d.serial (d.places + 1) _ refl refl

  removed_marks : (path : List ℕ) (class : NodeClass) (fault : Option CatFault) → At path DropNode (node_removed d path class fault)
  removed_marks path class None = dropped_marks path class
  removed_marks path class (Some fault) = stays _ _

  -- ---- objects

  step_marks : (request : Request) (number : ℕ) (root : Id) (id : Option Id) → Marks d request (one_step d number root id)
  step_marks request number root None = stays _ _
  step_marks request number root (Some id) = same request _ d.serial (d.places + 1) _

  object_marks : (request : Request) (op : Op) (number : ℕ) (root : Id) (foreign : Option Id) → Marks d request (object_granted d number root op foreign)
  object_marks request op number root None = step_marks request number root (id_of op)
  object_marks request op number root (Some target) = stays _ _

  make_marks : (request : Request) (number : ℕ) (root fresh : Id) (place : Option LinkPlace) → Marks d request (make_steps (record d { serial = d.serial + 1 }) number root fresh place)
  make_marks request number root fresh None = same request _ (d.serial + 1) (d.places + 1) _
  make_marks request number root fresh (Some place) = same request _ (d.serial + 1) (d.places + 1) _

  make_or : (request : Request) (make : Make) (number : ℕ) (root : Id) (place : Option LinkPlace) (few : Bool)
      → Marks d request (cond few (make_steps (record d { serial = d.serial + 1 }) number root (record { kind = kind_made make; domain = number; run = d.run; serial = d.serial }) place)
      (refused (Limit (most_of limit.Serial) limit.Serial) d))
  make_or request make number root place true = make_marks request number root (record { kind = kind_made make; domain = number; run = d.run; serial = d.serial }) place
  make_or request make number root place false = stays _ _

  in_marks : (request : Request) (op : Op) (class : NodeClass) → Marks d request (in_domain d op class)
  in_marks request op Folder = stays _ _
  in_marks request (MakeObject make place) (Domain number root) = make_or request make number root place (nat_lt d.serial serial_limit)
  in_marks request op (Domain number root) = object_marks request op number root (foreign_in number op)

  -- ---- at a node

  granted_marks : (caller : Caller) (path : List ℕ) (op : Op) (node : Node) → At path op (granted d caller path op node)
  granted_marks caller path GetNode node = stays _ _
  granted_marks caller path (PutNode folder) node = node_marks caller path folder
  granted_marks caller path Flush node = stays _ _
  granted_marks caller path DropNode node = removed_marks path node.class (remove_fault d.catalogue path)
  granted_marks caller path ListNodes node = stays _ _
  granted_marks caller path GetAcls node = stays _ _
  granted_marks caller path (GetAcl name) node = read_marks path name (get node.list name)
  granted_marks caller path (PutAcl name rights) node = put_marks path name rights (entry_fault d.catalogue path name)
  granted_marks caller path op node = in_marks (record { path = path; op = op }) op node.class

  judged_marks : (caller : Caller) (path : List ℕ) (op : Op) (node : Node) (fit right : Bool)
      → At path op (cond fit (cond right (granted d caller path op node) (Denied (right_for op), passed d)) (refused NoDomain d))
  judged_marks caller path op node true true = granted_marks caller path op node
  judged_marks caller path op node true false = stays _ _
  judged_marks caller path op node false right = stays _ _

  at_marks : (caller : Caller) (path : List ℕ) (op : Op) (node : Option Node) → At path op (at_maybe d caller path op node)
  at_marks caller path op None = stays _ _
  at_marks caller path op (Some node) = judged_marks caller path op node (fits op node.class) (has node.list caller (right_for op))

  pub decided_marks : (caller : Caller) (request : Request) → Marks d request (decided d caller request)
  decided_marks caller request = at_marks caller request.path request.op (get d.catalogue.nodes (decided_at request))

  -- ---- what a call leaves

  as_decided : (caller : Caller) (request : Request) (v : Verdict) (new : RegisterState) → (v, new) ≡ decided d caller request
      → (key : List ℕ) → IsRegisterMarked new key → IsRegisterMarked d key ⊎ IsNodeMark request (decided d caller request).0 key
  as_decided caller request v new e key marked = (decided_marks caller request).alone key (subst (λ (p : Verdict × RegisterState). IsRegisterMarked p.1 key) e marked)

  passed_was : (key : List ℕ) → IsRegisterMarked (passed d) key → IsRegisterMarked d key
  passed_was key (the_run on is) = the_run on is
  passed_was key (the_next on is) = the_next on is
  passed_was key (a_node path on is) = a_node path on is

  pub undecided_marks : (new : RegisterState) → new ≡ passed d → (key : List ℕ) → IsRegisterMarked new key → IsRegisterMarked d key
  undecided_marks new undecided key marked = passed_was key (subst (λ (x : RegisterState). IsRegisterMarked x key) undecided marked)

  pub decides_marks : (caller : Caller) (request : Request) (v : Verdict) (new : RegisterState) → Decides d caller request v new
      → (key : List ℕ) → IsRegisterMarked new key → IsRegisterMarked d key ⊎ IsNodeMark request (decided d caller request).0 key
  decides_marks caller request (Granted issue) new h = as_decided caller request (Granted issue) new h
  decides_marks caller request (Answered reply) new h = as_decided caller request (Answered reply) new h
  decides_marks caller request (Denied right) new h = as_decided caller request (Denied right) new h
  decides_marks caller request (Refused refusal) new h = as_decided caller request (Refused refusal) new h
  decides_marks caller request NoMemory new h = λ key marked. inl (undecided_marks new h.2 key marked)
