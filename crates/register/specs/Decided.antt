-- How a request is decided at its place: the verdict, and what the register is then.
use Rattle.std.specs.Prelude.{◌≡◌, ℕ, ◌+◌, ◌-◌, ◌<◌, ◌≤◌, ◌^◌, ◌==◌, List, [], ◌∷◌, length, All, Bool, true, false, Option, Some, None, nat_lt, codes, replicate, if◌then◌else◌}
use Rattle.std.specs.FinMap.{get}
use Rattle.serde_json.specs.Data.{Data}
use Rattle.object_ids.specs.IdValues.{Id}
use Rattle.object_ids.specs.declared.ids.Kind.{Kind}
use Rattle.object_ids.specs.declared.limits.LimitKind.{LimitKind}
use Rattle.object_ids.specs.declared.limits.LimitKind.TheVariants as limit
use Rattle.access_lists.specs.declared.people.Caller.{Caller}
use Rattle.access_lists.specs.declared.rights.Rights.{Rights}
use Rattle.access_lists.specs.InForce.{Entries, has}
use Rattle.access_lists.specs.EntryTrees.{acl_tree, acls_tree}
use Rattle.domains.specs.Contents.{Contents, IsDomainAt, with_node, is_domain}
use Rattle.domains.specs.Changes.{make_fault, domain_fault, remove_fault, entry_fault, new_node, new_domain, without_node, with_entry, domain_count}
use Rattle.domains.specs.NodeTrees.{node_tree, children_tree}
use Rattle.domains.specs.declared.classes.Node.{Node}
use Rattle.domains.specs.declared.classes.NodeClass.{NodeClass}
use Rattle.domains.specs.declared.classes.NodeClass.TheVariants.{Folder, Domain}
use Rattle.domains.specs.declared.faults.CatFault.{CatFault}
use Rattle.domains.specs.declared.faults.CatFault.TheVariants as cat
use Rattle.groups_links.specs.declared.target.LinkTo.{LinkTo}
use Rattle.groups_links.specs.declared.target.LinkTo.TheVariants.{Hard}
use Rattle.object_ops.specs.Replies.{nothing, only}
use Rattle.object_ops.specs.Needs.{right_for, decided_at}
use Rattle.object_ops.specs.declared.ops.Request.{Request}
use Rattle.object_ops.specs.declared.ops.Op.{Op}
use Rattle.object_ops.specs.declared.ops.Op.TheVariants.{GetNode, PutNode, Flush, DropNode, ListNodes, GetAcls, GetAcl, PutAcl, MakeObject, PutLink}
use Rattle.object_ops.specs.declared.ops.Make.{Make}
use Rattle.object_ops.specs.declared.ops.LinkPlace.{LinkPlace}
use Rattle.object_ops.specs.declared.grants.Grant.{Grant}
use Rattle.object_ops.specs.declared.grants.Step.TheVariants.{Only, Link, Make as Making}
use Rattle.object_ops.specs.declared.replies.Reply.TheVariants.{Done}
use Rattle.object_ops.specs.declared.refusals.Refusal.{Refusal}
use Rattle.object_ops.specs.declared.refusals.Refusal.TheVariants.{NoDomain, NoObject, Taken, NotEmpty, NoName, Root, Limit}
use Rattle.object_ops.specs.Parts.{id_of, kind_made}
use Rattle.register.specs.Marks.{Marked, all_marks, with_domain, with_path}
use Rattle.register.specs.Tickets.{turn_at, counted, turns_from, all_counted}
use Rattle.register.specs.declared.verdicts.Verdict.{Verdict}
use Rattle.register.specs.declared.verdicts.Verdict.TheVariants.{Granted, Answered, Denied, Refused, NoMemory}

-- the catalogue, the run, the next serial, how many places were given, how many tickets each lane gave, and what a journal doesn't hold yet
pub record RegisterState : Type 0 where
  pub catalogue : Contents
  pub run : ℕ
  pub serial : ℕ
  pub places : ℕ
  pub issued : List ℕ
  pub marks : Marked

-- the serials of a run are below this
abbrev pub serial_limit : ℕ
serial_limit = 2 ^ 40

-- ---- the node that decides

abbrev pub is_folder : NodeClass → Bool
is_folder Folder = true
is_folder (Domain number root) = false

-- a new node needs a folder as the parent, and only a folder has children; objects stand in domains
abbrev pub fits : Op → NodeClass → Bool
fits GetNode class = true
fits (PutNode folder) class = is_folder class
fits Flush class = true
fits DropNode class = true
fits ListNodes class = is_folder class
fits GetAcls class = true
fits (GetAcl name) class = true
fits (PutAcl name rights) class = true
fits op class = is_domain class

-- ---- the register afterwards

-- one place more was given
abbrev pub passed : RegisterState → RegisterState
passed d = record d { places = d.places + 1 }

abbrev pub refused : Refusal → RegisterState → Verdict × RegisterState
refused refusal d = (Refused refusal, passed d)

abbrev pub answered : ℕ → Data → RegisterState → Verdict × RegisterState
answered status body d = (Answered (Done status body), passed d)

-- another catalogue, in which a node was made, changed or removed
abbrev pub changed_at : RegisterState → List ℕ → Contents → RegisterState
changed_at d path catalogue = record d { catalogue = catalogue; marks = with_path d.marks path }

-- answered, with another catalogue
abbrev pub changed : ℕ → Data → List ℕ → Contents → RegisterState → Verdict × RegisterState
changed status body path catalogue d = (Answered (Done status body), passed (changed_at d path catalogue))

-- a new domain, whose root has the next serial
abbrev pub domain_added : RegisterState → List ℕ → List ℕ → RegisterState
domain_added d path owner =
    record d { catalogue = with_node d.catalogue path (new_domain d.catalogue.next d.run d.serial owner); serial = d.serial + 1; marks = with_domain d.marks path }

-- ---- folders and domains

-- who owns what a caller makes
abbrev pub owner_named : Option (List ℕ) → List ℕ
owner_named None = codes "default"
owner_named (Some user) = user

abbrev pub owner_of : Caller → List ℕ
owner_of caller = owner_named caller.user

-- how many there may be, as a refusal tells it
abbrev pub most_of : LimitKind → ℕ
most_of limit.Links = 65536
most_of limit.Attributes = 1024
most_of limit.Entries = 1024
most_of limit.Nodes = 65536
most_of limit.Serial = serial_limit
most_of limit.Domain = 2 ^ 48 - 1

-- the refusal for what speaks against a change of the catalogue; a missing node was told before
abbrev pub cat_refusal : List ℕ → CatFault → Refusal
cat_refusal path cat.NoFolder = NoDomain
cat_refusal path cat.Taken = Taken path
cat_refusal path (cat.Limit what) = Limit (most_of what) what
cat_refusal path cat.NoDomain = NoDomain
cat_refusal path cat.NotEmpty = NotEmpty
cat_refusal path cat.Root = Root
cat_refusal path cat.NoMemory = NoDomain

abbrev pub folder_made : RegisterState → List ℕ → List ℕ → Option CatFault → Verdict × RegisterState
folder_made d path owner None = let node = new_node Folder owner in changed 201 (node_tree node) path (with_node d.catalogue path node) d
folder_made d path owner (Some fault) = refused (cat_refusal path fault) d

-- a domain takes the next serial for its root
abbrev pub domain_made : RegisterState → List ℕ → List ℕ → Option CatFault → Verdict × RegisterState
domain_made d path owner None =
    let node = new_domain d.catalogue.next d.run d.serial owner in
    if nat_lt d.serial serial_limit then (Answered (Done 201 (node_tree node)), passed (domain_added d path owner))
    else refused (Limit (most_of limit.Serial) limit.Serial) d
domain_made d path owner (Some fault) = refused (cat_refusal path fault) d

abbrev pub children_body : Contents → List ℕ → Data
children_body catalogue path = only (codes "domains") (children_tree catalogue path)

abbrev pub node_made : RegisterState → Caller → List ℕ → Bool → Verdict × RegisterState
node_made d caller path true = folder_made d path (owner_of caller) (make_fault d.catalogue path)
node_made d caller path false = domain_made d path (owner_of caller) (domain_fault d.catalogue path)

-- what a request of a domain is granted with
abbrev pub grant_of : RegisterState → ℕ → Id → Option Id → Grant
grant_of d number root fresh = record { number = number; root = root; fresh = fresh; run = d.run; serial = d.serial }

-- of a removed domain the objects are dropped, in a turn of each lane
abbrev pub forgotten : RegisterState → NodeClass → Verdict × RegisterState
forgotten d Folder = answered 200 nothing d
forgotten d (Domain number root) =
    (Granted (record { place = d.places; grant = grant_of d number root None; left = turns_from 0 d.issued }), record (passed d) { issued = all_counted d.issued })

abbrev pub node_removed : RegisterState → List ℕ → NodeClass → Option CatFault → Verdict × RegisterState
node_removed d path class None = forgotten (changed_at d path (without_node d.catalogue path)) class
node_removed d path class (Some fault) = refused (cat_refusal path fault) d

-- ---- access lists

abbrev pub acls_body : Entries → Data
acls_body list = only (codes "acls") (acls_tree list)

abbrev pub acl_body : List ℕ → Rights → Data
acl_body name rights = only (codes "acl") (acl_tree name rights)

abbrev pub entry_read : RegisterState → List ℕ → Option Rights → Verdict × RegisterState
entry_read d name None = refused (NoName name) d
entry_read d name (Some rights) = answered 200 (acl_body name rights) d

abbrev pub entry_put : RegisterState → List ℕ → List ℕ → Rights → Option CatFault → Verdict × RegisterState
entry_put d path name rights None = changed 201 nothing path (with_entry d.catalogue path name rights) d
entry_put d path name rights (Some fault) = refused (cat_refusal path fault) d

-- ---- objects

-- the target of a hard link to an object of another domain
abbrev pub foreign : ℕ → LinkTo → Option Id
foreign number (Hard target) = if target.domain == number then None else Some target
foreign number link = None

abbrev pub foreign_in : ℕ → Op → Option Id
foreign_in number (PutLink id title link) = foreign number link
foreign_in number op = None

-- one step, in the lane of the object
abbrev pub one_step : RegisterState → ℕ → Id → Option Id → Verdict × RegisterState
one_step d number root None = refused NoDomain d
one_step d number root (Some id) =
    (Granted (record { place = d.places; grant = grant_of d number root None; left = turn_at d.issued id Only ∷ [] }), record (passed d) { issued = counted d.issued id })

abbrev pub object_granted : RegisterState → ℕ → Id → Op → Option Id → Verdict × RegisterState
object_granted d number root op None = one_step d number root (id_of op)
object_granted d number root op (Some target) = refused (NoObject target) d

-- a new object takes the next serial; a link to it comes first, in the lane of the group
abbrev pub make_steps : RegisterState → ℕ → Id → Id → Option LinkPlace → Verdict × RegisterState
make_steps d number root fresh None =
    (Granted (record { place = d.places; grant = grant_of d number root (Some fresh); left = turn_at d.issued fresh Only ∷ [] }), record (passed d) { issued = counted d.issued fresh })
make_steps d number root fresh (Some place) =
    let first = counted d.issued place.group in (
      Granted (record { place = d.places; grant = grant_of d number root (Some fresh); left = turn_at d.issued place.group Link ∷ turn_at first fresh Making ∷ [] }),
      record (passed d) { issued = counted first fresh },
    )

abbrev pub make_granted : RegisterState → ℕ → Id → Make → Option LinkPlace → Verdict × RegisterState
make_granted d number root make place =
    if nat_lt d.serial serial_limit then
    make_steps (record d { serial = d.serial + 1 }) number root (record { kind = kind_made make; domain = number; run = d.run; serial = d.serial }) place
    else refused (Limit (most_of limit.Serial) limit.Serial) d

abbrev pub in_domain : RegisterState → Op → NodeClass → Verdict × RegisterState
in_domain d op Folder = refused NoDomain d
in_domain d (MakeObject make place) (Domain number root) = make_granted d number root make place
in_domain d op (Domain number root) = object_granted d number root op (foreign_in number op)

-- ---- the whole

-- what is granted at a node
abbrev pub granted : RegisterState → Caller → List ℕ → Op → Node → Verdict × RegisterState
granted d caller path GetNode node = answered 200 (node_tree node) d
granted d caller path (PutNode folder) node = node_made d caller path folder
granted d caller path Flush node = answered 204 nothing d
granted d caller path DropNode node = node_removed d path node.class (remove_fault d.catalogue path)
granted d caller path ListNodes node = answered 200 (children_body d.catalogue path) d
granted d caller path GetAcls node = answered 200 (acls_body node.list) d
granted d caller path (GetAcl name) node = entry_read d name (get node.list name)
granted d caller path (PutAcl name rights) node = entry_put d path name rights (entry_fault d.catalogue path name)
granted d caller path op node = in_domain d op node.class

abbrev pub at_node : RegisterState → Caller → List ℕ → Op → Node → Verdict × RegisterState
at_node d caller path op node =
    if fits op node.class then (if has node.list caller (right_for op) then granted d caller path op node else (Denied (right_for op), passed d)) else refused NoDomain d

abbrev pub at_maybe : RegisterState → Caller → List ℕ → Op → Option Node → Verdict × RegisterState
at_maybe d caller path op None = refused NoDomain d
at_maybe d caller path op (Some node) = at_node d caller path op node

-- the verdict on a request at the next place, and the register afterwards: the node that decides comes first, then the right, then the rest
abbrev pub decided : RegisterState → Caller → Request → Verdict × RegisterState
decided d caller request = at_maybe d caller request.path request.op (get d.catalogue.nodes (decided_at request))

-- ---- without a request, so that no place is taken

-- what speaks against a new domain: what the catalogue refuses, then that no serial is left
abbrev pub domain_refused : RegisterState → Option CatFault → Option CatFault
domain_refused d (Some fault) = Some fault
domain_refused d None = if nat_lt d.serial serial_limit then None else Some (cat.Limit limit.Serial)

-- a new id has the next serial; there is none where no serial is left
abbrev pub fresh_given : RegisterState → Kind → ℕ → Option Id × RegisterState
fresh_given d kind number =
    if nat_lt d.serial serial_limit then (Some (record { kind = kind; domain = number; run = d.run; serial = d.serial }), record d { serial = d.serial + 1 }) else (None, d)

-- ---- what a call says

-- an operation on folders, domains and access lists alone
abbrev pub is_of_nodes : Op → Bool
is_of_nodes GetNode = true
is_of_nodes (PutNode folder) = true
is_of_nodes Flush = true
is_of_nodes DropNode = true
is_of_nodes ListNodes = true
is_of_nodes GetAcls = true
is_of_nodes (GetAcl name) = true
is_of_nodes (PutAcl name rights) = true
is_of_nodes op = false

abbrev pub IsDenial : Verdict → Type 0
IsDenial (Denied right) = Unit {0}
IsDenial verdict = ⊥

-- the verdict and the register are as decided; or memory ran out, on an operation on nodes that isn't denied, and the place alone was taken
abbrev pub Decides : RegisterState → Caller → Request → Verdict → RegisterState → Type 0
Decides d caller request NoMemory new = (is_of_nodes request.op ≡ true) × (IsDenial (decided d caller request).0 → ⊥) × (new ≡ passed d)
Decides d caller request verdict new = (verdict, new) ≡ decided d caller request

-- the register after a verdict: where memory ran out, the place alone was taken
abbrev pub left_by : RegisterState → Caller → Request → Verdict → RegisterState
left_by d caller request NoMemory = passed d
left_by d caller request verdict = (decided d caller request).1

-- a cut was drawn, with a ticket of each lane
abbrev pub drawn : RegisterState → RegisterState
drawn d = record d { issued = all_counted d.issued }

-- the first serial of a run; of run 0 the domains' roots have those before it
abbrev pub first_serial : Contents → ℕ → ℕ
first_serial catalogue run = if run == 0 then domain_count catalogue else 0

-- a register at the begin of a run, of which nothing is held
abbrev pub opened : Contents → ℕ → ℕ → RegisterState
opened catalogue lanes run = record { catalogue = catalogue; run = run; serial = first_serial catalogue run; places = 0; issued = replicate lanes 0; marks = all_marks }

-- a place and a ticket of each lane are left
pub record HasRoom (d : RegisterState) : Type 0 where
  pub places : d.places < 2 ^ 62
  pub tickets : All (λ n. n < 2 ^ 62) d.issued

-- an id was given out: in an earlier run, or in this one with an earlier serial
pub record IsGivenOut (present next : ℕ) (id : Id) : Type 0 where
  pub run : id.run ≤ present
  pub serial : id.run ≡ present → id.serial < next

-- the roots of all domains were given out
abbrev pub AreGivenOut : Contents → ℕ → ℕ → Type 0
AreGivenOut catalogue run serial = (path : List ℕ) (number : ℕ) (root : Id) → IsDomainAt catalogue path number root → IsGivenOut run serial root

-- what is true of every register
pub record IsRegister (d : RegisterState) : Type 0 where
  pub run : d.run < 2 ^ 22
  pub serial : d.serial ≤ serial_limit
  pub some_lane : 0 < length d.issued
  pub few_lanes : length d.issued ≤ 16
  pub roots : AreGivenOut d.catalogue d.run d.serial
