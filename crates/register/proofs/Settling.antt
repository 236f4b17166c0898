-- From what each part of a decision leaves to the decision.
use Rattle.std.proofs.Common.{◌≡◌, ℕ, List, Bool, true, false, Option, Some, None, Err, if◌then◌else◌, refl, sym, ap, subst, ◌∙◌}
use Rattle.std.proofs.lemmas.Bool.{le-ltb}
use Rattle.std.proofs.Common.{◌<◌, ◌≤◌}
use Rattle.std.specs.Prelude.{◌+◌, nat_lt}
use Rattle.std.proofs.lemmas.Bool.{false≢true, lt-ltb}
use Rattle.std.specs.FinMap.{get}
use Rattle.serde_json.specs.Data.{Data}
use Rattle.access_lists.specs.declared.people.Caller.{Caller}
use Rattle.access_lists.specs.declared.rights.Rights.{Rights}
use Rattle.access_lists.specs.InForce.{has}
use Rattle.domains.specs.declared.classes.Node.{Node}
use Rattle.domains.specs.declared.classes.NodeClass.{NodeClass}
use Rattle.domains.specs.declared.classes.NodeClass.TheVariants.{Folder, Domain}
use Rattle.object_ids.specs.declared.limits.LimitKind.TheVariants as limit
use Rattle.domains.specs.Changes.{Blames, children_fault, new_domain}
use Rattle.register.specs.Marks.{Marked, with_domain, with_path}
use Rattle.domains.specs.Contents.{Contents, IsFolderAt, with_node}
use Rattle.domains.specs.NodeTrees.{node_tree}
use Rattle.domains.specs.declared.faults.CatFault.{CatFault}
use Rattle.domains.specs.declared.faults.CatFault.TheVariants as cat
use Rattle.object_ops.specs.Needs.{decided_at, right_for}
use Rattle.object_ops.specs.declared.ops.Op.{Op}
use Rattle.object_ops.specs.declared.ops.Op.TheVariants.{GetNode, PutNode, Flush, DropNode, ListNodes, GetAcls, GetAcl, PutAcl}
use Rattle.object_ops.specs.declared.ops.Request.{Request}
use Rattle.object_ops.specs.declared.replies.Reply.{Reply}
use Rattle.object_ops.specs.declared.replies.Reply.TheVariants.{Done}
use Rattle.object_ops.specs.declared.refusals.Refusal.{Refusal}
use Rattle.object_ops.specs.declared.refusals.Refusal.TheVariants.{Limit, NoDomain}
use Rattle.register.specs.declared.verdicts.Verdict.{Verdict}
use Rattle.register.specs.declared.verdicts.Verdict.TheVariants.{Granted, Answered, Denied, Refused, NoMemory}
use Rattle.register.specs.declared.looking.Looked.TheVariants as looks
use Rattle.register.specs.Decided.{Decides, IsDenial, RegisterState, answered, at_maybe, cat_refusal, changed_at, decided, domain_added, domain_made, entry_put, entry_read, fits, folder_made, forgotten, granted, is_of_nodes, most_of, node_made, node_removed, passed, refused, serial_limit}
use Rattle.register.specs.Looks.{DecidesUncounted, MayBlame, MaySettle, Settles, SettlesOp, VerdictAnswers, VerdictAnswersEntry, VerdictRefuses, VerdictRefusesFault, looked}

-- ---- replies and refusals settle

pub answers_settle : (status : ℕ) (body : Data) (d : RegisterState) (v : Verdict) → VerdictAnswers (Done status body) v → MaySettle (answered status body d) d v d
answers_settle status body d (Granted t) h = ap (λ w. (w, passed d)) h
answers_settle status body d (Answered r) h = ap (λ w. (w, passed d)) h
answers_settle status body d (Denied r) h = ap (λ w. (w, passed d)) h
answers_settle status body d (Refused r) h = ap (λ w. (w, passed d)) h
answers_settle status body d NoMemory h = refl

pub refuses_settle : (refusal : Refusal) (d : RegisterState) (v : Verdict) → VerdictRefuses refusal v → MaySettle (refused refusal d) d v d
refuses_settle refusal d (Granted t) h = ap (λ w. (w, passed d)) h
refuses_settle refusal d (Answered r) h = ap (λ w. (w, passed d)) h
refuses_settle refusal d (Denied r) h = ap (λ w. (w, passed d)) h
refuses_settle refusal d (Refused r) h = ap (λ w. (w, passed d)) h
refuses_settle refusal d NoMemory h = refl

pub reads_settle : (name : List ℕ) (d : RegisterState) (entry : Option Rights) (v : Verdict) → VerdictAnswersEntry name entry v → MaySettle (entry_read d name entry) d v d
reads_settle name d None v h = refuses_settle _ d v h
reads_settle name d (Some rights) v h = answers_settle 200 _ d v h

settle_as : (p q : Verdict × RegisterState) (d new : RegisterState) (v : Verdict) → p ≡ q → new ≡ d → MaySettle q d v d → MaySettle p d v new
settle_as p q d new v e same h =
    let With : RegisterState → Type 0 = λ n. MaySettle q d v n in
    let For : Verdict × RegisterState → Type 0 = λ r. MaySettle r d v new in
    subst For (sym e) (subst With (sym same) h)

told : (want : Option CatFault) (fault : CatFault) (refusal : Refusal) (p : Option CatFault → Verdict × RegisterState) (d new : RegisterState) (v : Verdict) → p (Some fault) ≡ refused refusal d
    → want ≡ Some fault → VerdictRefuses refusal v → new ≡ d → MaySettle (p want) d v new
told want fault refusal p d new v at e h same = settle_as (p want) (refused refusal d) d new v (ap p e ∙ at) same (refuses_settle refusal d v h)

-- a fault of the catalogue: `p` says what follows from what speaks against a change
pub fault_settles : (A : Type 0) (path : List ℕ) (fault : CatFault) (want : Option CatFault) (p : Option CatFault → Verdict × RegisterState) (d new : RegisterState) (v : Verdict)
    → ((e : CatFault) → p (Some e) ≡ refused (cat_refusal path e) d) → MayBlame {A = A} (Err fault) want → VerdictRefusesFault path fault v → new ≡ d → MaySettle (p want) d v new
fault_settles A path cat.NoFolder want p d new v at e h same = told want cat.NoFolder _ p d new v (at cat.NoFolder) e h same
fault_settles A path cat.Taken want p d new v at e h same = told want cat.Taken _ p d new v (at cat.Taken) e h same
fault_settles A path (cat.Limit what) want p d new v at e h same = told want (cat.Limit what) _ p d new v (at (cat.Limit what)) e h same
fault_settles A path cat.NoDomain want p d new v at e h same = told want cat.NoDomain _ p d new v (at cat.NoDomain) e h same
fault_settles A path cat.NotEmpty want p d new v at e h same = told want cat.NotEmpty _ p d new v (at cat.NotEmpty) e h same
fault_settles A path cat.Root want p d new v at e h same = told want cat.Root _ p d new v (at cat.Root) e h same
fault_settles A path cat.NoMemory want p d new v at e h same =
    let For : Verdict → Type 0 = λ w. MaySettle (p want) d w new in
    subst For (sym h) same

-- what is refused so may be refused so
pub may_blame : (A : Type 0) (fault : CatFault) (want : Option CatFault) → Blames {A = A} (Err fault) want → MayBlame {A = A} (Err fault) want
may_blame A cat.NoFolder want h = h
may_blame A cat.Taken want h = h
may_blame A (cat.Limit what) want h = h
may_blame A cat.NoDomain want h = h
may_blame A cat.NotEmpty want h = h
may_blame A cat.Root want h = h
may_blame A cat.NoMemory want h = tt

-- nothing speaks against a change, and the catalogue is changed
pub change_settles : (p : Option CatFault → Verdict × RegisterState) (want : Option CatFault) (r reply : Reply) (d : RegisterState) (path : List ℕ) (k catalogue : Contents) (marks : Marked) → want ≡ None
    → r ≡ reply → k ≡ catalogue → marks ≡ with_path d.marks path
    → (Answered reply, passed (changed_at d path catalogue)) ≡ p None → (Answered r, passed (record d { catalogue = k; marks = marks })) ≡ p want
change_settles p want r reply d path k catalogue marks none e same marked at =
    let pair : (Answered r, passed (record d { catalogue = k; marks = marks })) ≡ (Answered reply, passed (changed_at d path catalogue)) =
    λ i. (Answered (e i), passed (record d { catalogue = same i; marks = marked i })) in
    pair ∙ at ∙ sym (ap p none)

-- a domain is made
pub domain_settles : (d : RegisterState) (path owner : List ℕ) (want : Option CatFault) (r : Reply) (k : Contents) (marks : Marked) → want ≡ None → d.serial < serial_limit
    → r ≡ Done 201 (node_tree (new_domain d.catalogue.next d.run d.serial owner)) → k ≡ with_node d.catalogue path (new_domain d.catalogue.next d.run d.serial owner)
    → marks ≡ with_domain d.marks path
    → (Answered r, passed (record d { catalogue = k; serial = d.serial + 1; marks = marks })) ≡ domain_made d path owner want
domain_settles d path owner want r k marks none below e same marked =
    let node : Node = new_domain d.catalogue.next d.run d.serial owner in
    let made : Verdict × RegisterState = (Answered (Done 201 (node_tree node)), passed (domain_added d path owner)) in
    let pair : (Answered r, passed (record d { catalogue = k; serial = d.serial + 1; marks = marks })) ≡ made =
    λ i. (Answered (e i), passed (record d { catalogue = same i; serial = d.serial + 1; marks = marked i })) in
    let at : (if nat_lt d.serial serial_limit then made else refused (Limit (most_of limit.Serial) limit.Serial) d) ≡ made =
    ap (λ b. if b then made else refused (Limit (most_of limit.Serial) limit.Serial) d) (lt-ltb d.serial serial_limit below) in
    pair ∙ sym at ∙ sym (ap (domain_made d path owner) none)

-- no serial is left for a domain
pub domain_full : (d : RegisterState) (path owner : List ℕ) (want : Option CatFault) (v : Verdict) → want ≡ None → serial_limit ≤ d.serial
    → v ≡ Refused (Limit (most_of limit.Serial) limit.Serial) → MaySettle (domain_made d path owner want) d v d
domain_full d path owner want v none full e =
    let node : Node = new_domain d.catalogue.next d.run d.serial owner in
    let made : Verdict × RegisterState = (Answered (Done 201 (node_tree node)), passed (domain_added d path owner)) in
    let at : (if nat_lt d.serial serial_limit then made else refused (Limit (most_of limit.Serial) limit.Serial) d) ≡ refused (Limit (most_of limit.Serial) limit.Serial) d =
    ap (λ b. if b then made else refused (Limit (most_of limit.Serial) limit.Serial) d) (le-ltb d.serial serial_limit full) in
    let For : Verdict → Type 0 = λ w. MaySettle (domain_made d path owner want) d w d in
    subst For (sym e) (settle_as _ (refused (Limit (most_of limit.Serial) limit.Serial) d) d d (Refused (Limit (most_of limit.Serial) limit.Serial)) (ap (domain_made d path owner) none ∙ at) refl refl)

pub folder_has_children : (c : Contents) (path : List ℕ) → IsFolderAt c path → children_fault c path ≡ None
folder_has_children c path folder = rw folder refl

-- where nothing speaks against a call that takes memory, only memory was wanting
pub only_memory : (A : Type 0) (path : List ℕ) (fault : CatFault) (want : Option CatFault) (reply : Reply) (v : Verdict) → want ≡ None → Blames {A = A} (Err fault) want
    → VerdictRefusesFault path fault v → VerdictAnswers reply v
only_memory A path cat.NoFolder want reply v none e h = absurd (cc)
only_memory A path cat.Taken want reply v none e h = absurd (cc)
only_memory A path (cat.Limit what) want reply v none e h = absurd (cc)
only_memory A path cat.NoDomain want reply v none e h = absurd (cc)
only_memory A path cat.NotEmpty want reply v none e h = absurd (cc)
only_memory A path cat.Root want reply v none e h = absurd (cc)
only_memory A path cat.NoMemory want reply v none e h = subst (VerdictAnswers reply) (sym h) tt

-- with memory and without
pub may : (p : Verdict × RegisterState) (old new : RegisterState) (v : Verdict) → Settles p v new → MaySettle p old v new
may p old new (Granted t) h = h
may p old new (Answered r) h = h
may p old new (Denied r) h = h
may p old new (Refused r) h = h
may p old new NoMemory h = absurd h

pub op_may : (op : Op) (p : Verdict × RegisterState) (old new : RegisterState) (v : Verdict) → is_of_nodes op ≡ true → MaySettle p old v new → SettlesOp op p old v new
op_may op p old new (Granted t) of h = h
op_may op p old new (Answered r) of h = h
op_may op p old new (Denied r) of h = h
op_may op p old new (Refused r) of h = h
op_may op p old new NoMemory of h = (of, h)

pub op_settles : (op : Op) (p : Verdict × RegisterState) (old new : RegisterState) (v : Verdict) → Settles p v new → SettlesOp op p old v new
op_settles op p old new (Granted t) h = h
op_settles op p old new (Answered r) h = h
op_settles op p old new (Denied r) h = h
op_settles op p old new (Refused r) h = h
op_settles op p old new NoMemory h = absurd h

-- ---- what is granted is no denial

given_if : (b : Bool) (x y : Verdict × RegisterState) → (IsDenial x.0 → ⊥) → (IsDenial y.0 → ⊥) → IsDenial (if b then x else y).0 → ⊥
given_if true x y f g = f
given_if false x y f g = g

folder_given : (d : RegisterState) (path owner : List ℕ) (fault : Option CatFault) → IsDenial (folder_made d path owner fault).0 → ⊥
folder_given d path owner None h = h
folder_given d path owner (Some fault) h = h

domain_given : (d : RegisterState) (path owner : List ℕ) (fault : Option CatFault) → IsDenial (domain_made d path owner fault).0 → ⊥
domain_given d path owner None =
    let node : Node = new_domain d.catalogue.next d.run d.serial owner in
    given_if (nat_lt d.serial serial_limit)
    (Answered (Done 201 (node_tree node)), passed (domain_added d path owner))
    (refused (Limit (most_of limit.Serial) limit.Serial) d) (λ h. h) (λ h. h)
domain_given d path owner (Some fault) = λ h. h

made_given : (d : RegisterState) (caller : Caller) (path : List ℕ) (folder : Bool) → IsDenial (node_made d caller path folder).0 → ⊥
made_given d caller path true = folder_given d path _ _
made_given d caller path false = domain_given d path _ _

forgotten_given : (d : RegisterState) (class : NodeClass) → IsDenial (forgotten d class).0 → ⊥
forgotten_given d Folder h = h
forgotten_given d (Domain number root) h = h

removed_given : (d : RegisterState) (path : List ℕ) (class : NodeClass) (fault : Option CatFault) → IsDenial (node_removed d path class fault).0 → ⊥
removed_given d path class None = forgotten_given _ class
removed_given d path class (Some fault) = λ h. h

read_given : (d : RegisterState) (name : List ℕ) (entry : Option Rights) → IsDenial (entry_read d name entry).0 → ⊥
read_given d name None h = h
read_given d name (Some rights) h = h

put_given : (d : RegisterState) (path name : List ℕ) (rights : Rights) (fault : Option CatFault) → IsDenial (entry_put d path name rights fault).0 → ⊥
put_given d path name rights None h = h
put_given d path name rights (Some fault) h = h

granted_given : (d : RegisterState) (caller : Caller) (path : List ℕ) (op : Op) (node : Node) → is_of_nodes op ≡ true → IsDenial (granted d caller path op node).0 → ⊥
granted_given d caller path GetNode node of h = h
granted_given d caller path (PutNode folder) node of h = made_given d caller path folder h
granted_given d caller path Flush node of h = h
granted_given d caller path DropNode node of h = removed_given d path node.class _ h
granted_given d caller path ListNodes node of h = h
granted_given d caller path GetAcls node of h = h
granted_given d caller path (GetAcl name) node of h = read_given d name _ h
granted_given d caller path (PutAcl name rights) node of h = put_given d path name rights _ h
granted_given d caller path op node of h = absurd (false≢true of)

-- ---- what is met

tested : {A : Type 0} (f h : Bool) (class other : NodeClass) (allowed denied missing : A) → (if f then (if h then looks.Allowed class else looks.Denied) else looks.Missing) ≡ looks.Allowed other
    → (class ≡ other) × ((if f then (if h then allowed else denied) else missing) ≡ allowed)
tested true true class other allowed denied missing e = (cc, refl)
tested true false class other allowed denied missing e = absurd (cc)
tested false h class other allowed denied missing e = absurd (cc)

-- what stands where the right is given
pub record IsAllowed (d : RegisterState) (caller : Caller) (path : List ℕ) (op : Op) (m : Option Node) (class : NodeClass) : Type 0 where
  pub node : Node
  pub there : m ≡ Some node
  pub same : node.class ≡ class
  pub decides : at_maybe d caller path op m ≡ granted d caller path op node

pub allowed : (d : RegisterState) (caller : Caller) (path : List ℕ) (op : Op) (m : Option Node) (class : NodeClass) → looked caller op m ≡ looks.Allowed class → IsAllowed d caller path op m class
allowed d caller path op None class e = absurd (cc)
allowed d caller path op (Some node) class e =
    let t = tested (fits op node.class) (has node.list caller (right_for op)) node.class class (granted d caller path op node) (Denied (right_for op), passed d) (refused NoDomain d) e in
    record { node = node; there = refl; same = t.0; decides = t.1 }

-- ---- the whole

pub settled : (d : RegisterState) (caller : Caller) (request : Request) (class : NodeClass) (v : Verdict) (new : RegisterState)
    → looked caller request.op (get d.catalogue.nodes (decided_at request)) ≡ looks.Allowed class
    → ((node : Node) → get d.catalogue.nodes (decided_at request) ≡ Some node → node.class ≡ class
    → SettlesOp request.op (granted d caller request.path request.op node) d v new)
    → DecidesUncounted d caller request v new
settled d caller request class v new e h =
    let a = allowed d caller request.path request.op (get d.catalogue.nodes (decided_at request)) class e in
    leaves d caller request a.node v new a.decides (h a.node a.there a.same)
  where
    leaves : (d : RegisterState) (caller : Caller) (request : Request) (node : Node) (v : Verdict) (new : RegisterState) → decided d caller request ≡ granted d caller request.path request.op node
        → SettlesOp request.op (granted d caller request.path request.op node) d v new → DecidesUncounted d caller request v new
    leaves d caller request node (Granted t) new e h = h ∙ sym e
    leaves d caller request node (Answered r) new e h = h ∙ sym e
    leaves d caller request node (Denied r) new e h = h ∙ sym e
    leaves d caller request node (Refused r) new e h = h ∙ sym e
    leaves d caller request node NoMemory new e h =
        (h.0, (λ denial. granted_given d caller request.path request.op node h.0 (let Den : Verdict × RegisterState → Type 0 = λ p. IsDenial p.0 in subst Den e denial)), h.1)

missing_is : {A : Type 0} (f h : Bool) (class : NodeClass) (allowed denied missing : A) → (if f then (if h then looks.Allowed class else looks.Denied) else looks.Missing) ≡ looks.Missing
    → (if f then (if h then allowed else denied) else missing) ≡ missing
missing_is true true class allowed denied missing e = absurd (cc)
missing_is true false class allowed denied missing e = absurd (cc)
missing_is false h class allowed denied missing e = refl

denied_is : {A : Type 0} (f h : Bool) (class : NodeClass) (allowed denied missing : A) → (if f then (if h then looks.Allowed class else looks.Denied) else looks.Missing) ≡ looks.Denied
    → (if f then (if h then allowed else denied) else missing) ≡ denied
denied_is true true class allowed denied missing e = absurd (cc)
denied_is true false class allowed denied missing e = refl
denied_is false h class allowed denied missing e = absurd (cc)

missed : (d : RegisterState) (caller : Caller) (path : List ℕ) (op : Op) (m : Option Node) → looked caller op m ≡ looks.Missing → at_maybe d caller path op m ≡ refused NoDomain d
missed d caller path op None e = refl
missed d caller path op (Some node) e = missing_is (fits op node.class) (has node.list caller (right_for op)) node.class _ _ _ e

refused_right : (d : RegisterState) (caller : Caller) (path : List ℕ) (op : Op) (m : Option Node) → looked caller op m ≡ looks.Denied → at_maybe d caller path op m ≡ (Denied (right_for op), passed d)
refused_right d caller path op None e = absurd (cc)
refused_right d caller path op (Some node) e = denied_is (fits op node.class) (has node.list caller (right_for op)) node.class _ _ _ e

pub unmet : (d : RegisterState) (caller : Caller) (request : Request) → looked caller request.op (get d.catalogue.nodes (decided_at request)) ≡ looks.Missing
    → DecidesUncounted d caller request (Refused NoDomain) d
unmet d caller request e = sym (missed d caller request.path request.op _ e)

pub refused_access : (d : RegisterState) (caller : Caller) (request : Request) → looked caller request.op (get d.catalogue.nodes (decided_at request)) ≡ looks.Denied
    → DecidesUncounted d caller request (Denied (right_for request.op)) d
refused_access d caller request e = sym (refused_right d caller request.path request.op _ e)

-- and then the place is counted
pub counts_place : (d : RegisterState) (caller : Caller) (request : Request) (v : Verdict) (new : RegisterState) → DecidesUncounted d caller request v new → Decides d caller request v (passed new)
counts_place d caller request (Granted t) new h = h
counts_place d caller request (Answered r) new h = h
counts_place d caller request (Denied r) new h = h
counts_place d caller request (Refused r) new h = h
counts_place d caller request NoMemory new h = (h.0, h.1, ap passed h.2)
