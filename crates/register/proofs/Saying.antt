-- What is held tells a register after each change, but for what is marked.
use Rattle.std.proofs.Common.{◌≡◌, ℕ, ◌+◌, ◌&&◌, ◌||◌, nat_lt, Bool, true, false, cond, List, Option, Some, None, is_some, refl, sym, ap, subst, ◌∙◌}
use Rattle.std.specs.Cmp.Lexicographic.{nat_list_cmp_total}
use Rattle.std.specs.FinMap.{contains_key, empty, get, get-empty, get-insert, get-remove, insert}
use Rattle.std.specs.Ordering.{eq_by_cmp}
use Rattle.containers.specs.TextMaps.Keyed.{text_order}
use Rattle.flush_journal.specs.Records.{Held}
use Rattle.object_ids.specs.IdValues.{Id}
use Rattle.object_ids.specs.declared.limits.LimitKind.TheVariants as limit
use Rattle.access_lists.specs.declared.people.Caller.{Caller}
use Rattle.access_lists.specs.declared.rights.Rights.{Rights}
use Rattle.access_lists.specs.InForce.{has}
use Rattle.domains.specs.Changes.{domain_fault, entry_fault, entry_put as put_in, make_fault, new_domain, new_node, node_with, remove_fault, with_entry, without_node}
use Rattle.domains.specs.Contents.{Contents, with_node}
use Rattle.domains.specs.NodeTrees.{node_tree}
use Rattle.domains.specs.declared.classes.Node.{Node}
use Rattle.domains.specs.declared.classes.NodeClass.{NodeClass}
use Rattle.domains.specs.declared.classes.NodeClass.TheVariants.{Folder, Domain}
use Rattle.domains.specs.declared.faults.CatFault.{CatFault}
use Rattle.object_ops.specs.Needs.{decided_at, right_for}
use Rattle.object_ops.specs.Parts.{id_of, kind_made}
use Rattle.object_ops.specs.declared.ops.LinkPlace.{LinkPlace}
use Rattle.object_ops.specs.declared.ops.Make.{Make}
use Rattle.object_ops.specs.declared.ops.Op.{Op}
use Rattle.object_ops.specs.declared.ops.Op.TheVariants.{GetNode, PutNode, Flush, DropNode, ListNodes, GetAcls, GetAcl, PutAcl, MakeObject}
use Rattle.object_ops.specs.declared.ops.Request.{Request}
use Rattle.object_ops.specs.declared.refusals.Refusal.TheVariants.{Limit, NoDomain}
use Rattle.object_ops.specs.declared.replies.Reply.TheVariants.{Done}
use Rattle.object_records.specs.Keys.Keys.{next_key, node_key, run_key}
use Rattle.object_records.specs.Keys.Numbers.{next_bytes, run_bytes}
use Rattle.register.specs.Decided.{Decides, RegisterState, at_maybe, changed_at, decided, domain_added, domain_made, entry_put, entry_read, fits, folder_made, foreign_in, forgotten, granted, in_domain, make_steps, most_of, node_made, node_removed, object_granted, one_step, owner_of, passed, refused, serial_limit}
use Rattle.register.specs.Kept.{IsHeldNode, RegisterSays, is_marked, is_marked_in}
use Rattle.register.specs.Laws.{DecisionsKeepWhatIsSaid}
use Rattle.register.specs.Marks.{Marked, all_marks, with_domain, with_path}
use Rattle.register.specs.Since.{StillSays}
use Rattle.register.specs.declared.verdicts.Verdict.{Verdict}
use Rattle.register.specs.declared.verdicts.Verdict.TheVariants.{Granted, Answered, Denied, Refused, NoMemory}
use Rattle.containers.proofs.Passing.{by_bool, contrary}

-- serials, places and tickets aren't held
pub as_counted : (d : RegisterState) (serial places : ℕ) (issued : List ℕ) → StillSays d (record d { serial = serial; places = places; issued = issued })
as_counted d serial places issued held says = record { run = says.run; next = says.next; nodes = says.nodes }

passed_says : (d : RegisterState) → StillSays d (passed d)
passed_says d = as_counted d d.serial (d.places + 1) d.issued

-- ---- the nodes at all paths but one are as they were, and this one is marked

module _ (d : RegisterState) (path : List ℕ) (c : Contents) (others : (q : List ℕ) → eq_by_cmp text_order q path ≡ false → get c.nodes q ≡ get d.catalogue.nodes q) where
  path_in : (q : List ℕ) (b : Bool) → eq_by_cmp text_order q path ≡ b → contains_key (insert d.marks.paths path true) q ≡ is_some (cond b (Some true) (get d.marks.paths q))
  path_in q b e = ap is_some (get-insert nat_list_cmp_total d.marks.paths path true q) ∙ ap (λ x. is_some (cond x (Some true) (get d.marks.paths q))) e

  marked_there : (q : List ℕ) → eq_by_cmp text_order q path ≡ true → is_marked_in c (with_path d.marks path) q ≡ true
  marked_there q tied = ap (λ b. b || (d.marks.all && contains_key c.nodes q)) (path_in q true tied)

  marked_elsewhere : (q : List ℕ) → eq_by_cmp text_order q path ≡ false → is_marked_in c (with_path d.marks path) q ≡ is_marked d q
  marked_elsewhere q apart = ap (λ b. b || (d.marks.all && contains_key c.nodes q)) (path_in q false apart)
      ∙ ap (λ (o : Option Node). contains_key d.marks.paths q || (d.marks.all && is_some o)) (others q apart)

  nodes_said : (held : Held) → RegisterSays d held → (q : List ℕ) → is_marked_in c (with_path d.marks path) q ≡ false → IsHeldNode (get c.nodes q) (get held (node_key q))
  nodes_said held says q unmarked = by_bool (eq_by_cmp text_order q path) (IsHeldNode (get c.nodes q) (get held (node_key q)))
      (λ tied. contrary (is_marked_in c (with_path d.marks path) q) (IsHeldNode (get c.nodes q) (get held (node_key q))) (marked_there q tied) unmarked)
      (λ apart. subst (λ (o : Option Node). IsHeldNode o (get held (node_key q))) (sym (others q apart)) (says.nodes q (sym (marked_elsewhere q apart) ∙ unmarked)))

  change_says : c.next ≡ d.catalogue.next → StillSays d (changed_at d path c)
  change_says same held says = record { run = says.run; next = λ e. says.next e ∙ ap (λ n. Some (next_bytes n)) (sym same); nodes = nodes_said held says }

-- at other paths all is as it was
with_others : (c : Contents) (path : List ℕ) (node : Node) (q : List ℕ) → eq_by_cmp text_order q path ≡ false → get (insert c.nodes path node) q ≡ get c.nodes q
with_others c path node q apart = get-insert nat_list_cmp_total c.nodes path node q ∙ ap (λ b. cond b (Some node) (get c.nodes q)) apart

without_others : (c : Contents) (path q : List ℕ) → eq_by_cmp text_order q path ≡ false → get (without_node c path).nodes q ≡ get c.nodes q
without_others c path q apart = get-remove nat_list_cmp_total c.nodes path q ∙ ap (λ b. cond b None (get c.nodes q)) apart

entry_others : (c : Contents) (path name : List ℕ) (rights : Rights) (o : Option Node) (q : List ℕ) → eq_by_cmp text_order q path ≡ false → get (put_in c.nodes path o name rights) q ≡ get c.nodes q
entry_others c path name rights None q apart = refl
entry_others c path name rights (Some node) q apart = with_others c path (node_with node name rights) q apart

-- a domain is made, and the next number is marked too
pub domain_says : (d : RegisterState) (path owner : List ℕ) → StillSays d (domain_added d path owner)
domain_says d path owner held says =
    let node : Node = new_domain d.catalogue.next d.run d.serial owner in
    record {
      run = says.run;
      next = λ e. contrary true (get held next_key ≡ Some (next_bytes (with_node d.catalogue path node).next)) refl e;
      nodes = nodes_said d path (with_node d.catalogue path node) (with_others d.catalogue path node) held says;
    }

-- ---- decisions

abbrev Says : RegisterState → Verdict × RegisterState → Type 0
Says d p = StillSays d p.1

module _ (d : RegisterState) where
  then_passed : (new : RegisterState) → StillSays d new → StillSays d (passed new)
  then_passed new says held h = passed_says new held (says held h)

  folder_says : (path owner : List ℕ) (fault : Option CatFault) → Says d (folder_made d path owner fault)
  folder_says path owner None =
      let node : Node = new_node Folder owner in
      then_passed (changed_at d path (with_node d.catalogue path node)) (change_says d path (with_node d.catalogue path node) (with_others d.catalogue path node) refl)
  folder_says path owner (Some fault) = passed_says d

  new_domain_says : (path owner : List ℕ) (few : Bool) → Says d (let node = new_domain d.catalogue.next d.run d.serial owner in
      cond few (Answered (Done 201 (node_tree node)), passed (domain_added d path owner)) (refused (Limit (most_of limit.Serial) limit.Serial) d))
  new_domain_says path owner true = then_passed (domain_added d path owner) (domain_says d path owner)
  new_domain_says path owner false = passed_says d

  made_says : (path owner : List ℕ) (fault : Option CatFault) → Says d (domain_made d path owner fault)
  made_says path owner None = new_domain_says path owner (nat_lt d.serial serial_limit)
  made_says path owner (Some fault) = passed_says d

  node_says : (caller : Caller) (path : List ℕ) (folder : Bool) → Says d (node_made d caller path folder)
  node_says caller path true = folder_says path (owner_of caller) (make_fault d.catalogue path)
  node_says caller path false = made_says path (owner_of caller) (domain_fault d.catalogue path)

  forgotten_says : (class : NodeClass) → Says d (forgotten d class)
  forgotten_says Folder = passed_says d
  forgotten_says (Domain number root) = as_counted d d.serial (d.places + 1) _

  read_says : (name : List ℕ) (rights : Option Rights) → Says d (entry_read d name rights)
  read_says name None = passed_says d
  read_says name (Some rights) = passed_says d

  put_says : (path name : List ℕ) (rights : Rights) (fault : Option CatFault) → Says d (entry_put d path name rights fault)
  put_says path name rights None =
      let c : Contents = with_entry d.catalogue path name rights in
      then_passed (changed_at d path c) (change_says d path c (entry_others d.catalogue path name rights (get d.catalogue.nodes path)) refl)
  put_says path name rights (Some fault) = passed_says d

  -- ---- objects

  step_says : (number : ℕ) (root : Id) (id : Option Id) → Says d (one_step d number root id)
  step_says number root None = passed_says d
  step_says number root (Some id) = as_counted d d.serial (d.places + 1) _

  object_says : (op : Op) (number : ℕ) (root : Id) (foreign : Option Id) → Says d (object_granted d number root op foreign)
  object_says op number root None = step_says number root (id_of op)
  object_says op number root (Some target) = passed_says d

  make_says : (number : ℕ) (root fresh : Id) (place : Option LinkPlace) → Says d (make_steps (record d { serial = d.serial + 1 }) number root fresh place)
  make_says number root fresh None = as_counted d (d.serial + 1) (d.places + 1) _
  make_says number root fresh (Some place) = as_counted d (d.serial + 1) (d.places + 1) _

  make_or : (make : Make) (number : ℕ) (root : Id) (place : Option LinkPlace) (few : Bool)
      → Says d (cond few (make_steps (record d { serial = d.serial + 1 }) number root (record { kind = kind_made make; domain = number; run = d.run; serial = d.serial }) place)
      (refused (Limit (most_of limit.Serial) limit.Serial) d))
  make_or make number root place true = make_says number root (record { kind = kind_made make; domain = number; run = d.run; serial = d.serial }) place
  make_or make number root place false = passed_says d

  in_says : (op : Op) (class : NodeClass) → Says d (in_domain d op class)
  in_says op Folder = passed_says d
  in_says (MakeObject make place) (Domain number root) = make_or make number root place (nat_lt d.serial serial_limit)
  in_says op (Domain number root) = object_says op number root (foreign_in number op)

-- a node is removed, and of a domain the objects are dropped
removed_says : (d : RegisterState) (path : List ℕ) (class : NodeClass) (fault : Option CatFault) → Says d (node_removed d path class fault)
removed_says d path class None =
    let c : Contents = without_node d.catalogue path in
    λ held says. forgotten_says (changed_at d path c) class held (change_says d path c (without_others d.catalogue path) refl held says)
removed_says d path class (Some fault) = passed_says d

module _ (d : RegisterState) where
  granted_says : (caller : Caller) (path : List ℕ) (op : Op) (node : Node) → Says d (granted d caller path op node)
  granted_says caller path GetNode node = passed_says d
  granted_says caller path (PutNode folder) node = node_says d caller path folder
  granted_says caller path Flush node = passed_says d
  granted_says caller path DropNode node = removed_says d path node.class (remove_fault d.catalogue path)
  granted_says caller path ListNodes node = passed_says d
  granted_says caller path GetAcls node = passed_says d
  granted_says caller path (GetAcl name) node = read_says d name (get node.list name)
  granted_says caller path (PutAcl name rights) node = put_says d path name rights (entry_fault d.catalogue path name)
  granted_says caller path op node = in_says d op node.class

  judged_says : (caller : Caller) (path : List ℕ) (op : Op) (node : Node) (fit right : Bool)
      → Says d (cond fit (cond right (granted d caller path op node) (Denied (right_for op), passed d)) (refused NoDomain d))
  judged_says caller path op node true true = granted_says caller path op node
  judged_says caller path op node true false = passed_says d
  judged_says caller path op node false right = passed_says d

  at_says : (caller : Caller) (path : List ℕ) (op : Op) (node : Option Node) → Says d (at_maybe d caller path op node)
  at_says caller path op None = passed_says d
  at_says caller path op (Some node) = judged_says caller path op node (fits op node.class) (has node.list caller (right_for op))

pub still_said : DecisionsKeepWhatIsSaid
still_said d caller request = at_says d caller request.path request.op (get d.catalogue.nodes (decided_at request))

-- ---- what a call leaves

as_decided : (d : RegisterState) (caller : Caller) (request : Request) (v : Verdict) (new : RegisterState) → (v, new) ≡ decided d caller request → StillSays d new
as_decided d caller request v new e held says = subst (λ (p : Verdict × RegisterState). RegisterSays p.1 held) (sym e) (still_said d caller request held says)

pub decides_says : (d : RegisterState) (caller : Caller) (request : Request) (v : Verdict) (new : RegisterState) → Decides d caller request v new → StillSays d new
decides_says d caller request (Granted issue) new h = as_decided d caller request (Granted issue) new h
decides_says d caller request (Answered reply) new h = as_decided d caller request (Answered reply) new h
decides_says d caller request (Denied right) new h = as_decided d caller request (Denied right) new h
decides_says d caller request (Refused refusal) new h = as_decided d caller request (Refused refusal) new h
decides_says d caller request NoMemory new h = λ held says. subst (λ (x : RegisterState). RegisterSays x held) (sym h.2) (passed_says d held says)

pub domain_left : (d : RegisterState) (path owner : List ℕ) (catalogue : Contents) (marks : Marked) → catalogue ≡ with_node d.catalogue path (new_domain d.catalogue.next d.run d.serial owner)
    → marks ≡ with_domain d.marks path → StillSays d (record d { catalogue = catalogue; serial = d.serial + 1; marks = marks })
domain_left d path owner catalogue marks made marked held says =
    subst (λ (x : RegisterState). RegisterSays x held) (λ i. record d { catalogue = sym made i; serial = d.serial + 1; marks = sym marked i }) (domain_says d path owner held says)

-- ---- a register that was made

node_to_write : (b : Bool) (o : Option Node) (body : Option (List ℕ)) → body ≡ None → b || (true && is_some o) ≡ false → IsHeldNode o body
node_to_write b None body none unmarked = none
node_to_write true (Some node) body none unmarked = contrary true (IsHeldNode (Some node) body) refl unmarked
node_to_write false (Some node) body none unmarked = contrary true (IsHeldNode (Some node) body) refl unmarked

-- nothing is held, and all is marked
pub unheld_says : (d : RegisterState) → d.marks ≡ all_marks → RegisterSays d empty
unheld_says d all = record {
  run = λ unmarked. contrary d.marks.run (get empty run_key ≡ Some (run_bytes d.run)) (ap (λ (m : Marked). m.run) all) unmarked;
  next = λ unmarked. contrary d.marks.next (get empty next_key ≡ Some (next_bytes d.catalogue.next)) (ap (λ (m : Marked). m.next) all) unmarked;
  nodes = λ path unmarked.
      let to_write = ap (λ (b : Bool). contains_key d.marks.paths path || (b && contains_key d.catalogue.nodes path)) (ap (λ (m : Marked). m.all) all) in
      node_to_write (contains_key d.marks.paths path) (get d.catalogue.nodes path) (get empty (node_key path)) (get-empty text_order (node_key path)) (sym to_write ∙ unmarked);
}
