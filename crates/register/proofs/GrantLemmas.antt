-- What granted requests are given.
use Rattle.std.proofs.Common.{◌≡◌, ℕ, suc, ◌+◌, ◌<◌, List, [], ◌∷◌, length, Bool, true, false, Option, Some, None, if◌then◌else◌, refl, ap, sym, subst, arith}
use Rattle.std.specs.Prelude.{nat_lt}
use Rattle.access_lists.specs.declared.people.Caller.{Caller}
use Rattle.access_lists.specs.declared.rights.Rights.{Rights}
use Rattle.access_lists.specs.InForce.{has}
use Rattle.object_ids.specs.IdValues.{Id}
use Rattle.object_ids.specs.Ids.{lane_of}
use Rattle.object_ids.specs.declared.limits.LimitKind.TheVariants as limit
use Rattle.domains.specs.Changes.{new_domain}
use Rattle.domains.specs.NodeTrees.{node_tree}
use Rattle.domains.specs.declared.classes.Node.{Node}
use Rattle.domains.specs.declared.classes.NodeClass.{NodeClass}
use Rattle.domains.specs.declared.classes.NodeClass.TheVariants.{Folder, Domain}
use Rattle.domains.specs.declared.faults.CatFault.{CatFault}
use Rattle.object_ops.specs.Parts.{id_of, kind_made}
use Rattle.object_ops.specs.Needs.{decided_at, right_for}
use Rattle.object_ops.specs.declared.grants.Grant.{Grant}
use Rattle.object_ops.specs.declared.ops.LinkPlace.{LinkPlace}
use Rattle.object_ops.specs.declared.ops.Make.{Make}
use Rattle.object_ops.specs.declared.ops.Op.{Op}
use Rattle.object_ops.specs.declared.ops.Op.TheVariants.{GetNode, PutNode, Flush, DropNode, ListNodes, GetAcls, GetAcl, PutAcl, MakeObject, PutLink}
use Rattle.object_ops.specs.declared.ops.Request.{Request}
use Rattle.object_ops.specs.declared.replies.Reply.TheVariants.{Done}
use Rattle.object_ops.specs.declared.refusals.Refusal.TheVariants.{Limit, NoDomain}
use Rattle.groups_links.specs.declared.target.LinkTo.{LinkTo}
use Rattle.std.specs.FinMap.{get}
use Rattle.register.specs.Tickets.{AreEach, AreInLanes, Issue, turns_from}
use Rattle.register.specs.declared.verdicts.Verdict.{Verdict}
use Rattle.register.specs.declared.verdicts.Verdict.TheVariants.{Granted, Answered, Denied, Refused, NoMemory}
use Rattle.register.specs.Decided.{Decides, RegisterState, at_maybe, domain_added, domain_made, entry_put, entry_read, fits, folder_made, foreign, grant_of, granted, in_domain, make_granted, make_steps, most_of, node_made, node_removed, object_granted, passed, refused, serial_limit}
use Rattle.register.specs.Grants.{AreAtHome, AreBare, IfGranted, IsIssueOf}
use Rattle.register.specs.Laws.{GrantsAreIssues}
use Rattle.register.proofs.Counting.{lane_below, length-counted}

if_either : (b : Bool) (x y : Verdict × RegisterState) (P : Issue → Type 0) → IfGranted x.0 P → IfGranted y.0 P → IfGranted (if b then x else y).0 P
if_either true x y P h k = h
if_either false x y P h k = k

-- ---- folders, domains and access lists

folder_issue : (d : RegisterState) (path owner : List ℕ) (fault : Option CatFault) (P : Issue → Type 0) → IfGranted (folder_made d path owner fault).0 P
folder_issue d path owner None P = tt
folder_issue d path owner (Some fault) P = tt

domain_issue : (d : RegisterState) (path owner : List ℕ) (fault : Option CatFault) (P : Issue → Type 0) → IfGranted (domain_made d path owner fault).0 P
domain_issue d path owner None P =
    let node : Node = new_domain d.catalogue.next d.run d.serial owner in
    if_either (nat_lt d.serial serial_limit)
    (Answered (Done 201 (node_tree node)), passed (domain_added d path owner))
    (refused (Limit (most_of limit.Serial) limit.Serial) d) P tt tt
domain_issue d path owner (Some fault) P = tt

made_issue : (d : RegisterState) (caller : Caller) (path : List ℕ) (folder : Bool) (P : Issue → Type 0) → IfGranted (node_made d caller path folder).0 P
made_issue d caller path true P = folder_issue d path _ _ P
made_issue d caller path false P = domain_issue d path _ _ P

read_issue : (d : RegisterState) (name : List ℕ) (entry : Option Rights) (P : Issue → Type 0) → IfGranted (entry_read d name entry).0 P
read_issue d name None P = tt
read_issue d name (Some rights) P = tt

put_issue : (d : RegisterState) (path name : List ℕ) (rights : Rights) (fault : Option CatFault) (P : Issue → Type 0) → IfGranted (entry_put d path name rights fault).0 P
put_issue d path name rights None P = tt
put_issue d path name rights (Some fault) P = tt

-- ---- a turn of each lane

in_lanes : (lane : ℕ) (counts : List ℕ) (n : ℕ) → lane + length counts ≡ n → AreInLanes n (turns_from lane counts)
in_lanes lane [] n e = tt
in_lanes lane (c ∷ cs) n e = (omega (arith, e), in_lanes (lane + 1) cs n (omega (arith, e)))

at_home : (lane : ℕ) (counts : List ℕ) (n : ℕ) (op : Op) (grant : Grant) → AreAtHome n op grant (turns_from lane counts)
at_home lane [] n op grant = tt
at_home lane (c ∷ cs) n op grant = (tt, at_home (lane + 1) cs n op grant)

bare : (lane : ℕ) (counts : List ℕ) → AreBare (turns_from lane counts)
bare lane [] = tt
bare lane (c ∷ cs) = (refl, bare (lane + 1) cs)

pub each_from : (n lane : ℕ) (counts : List ℕ) → lane + length counts ≡ n → AreEach n lane (turns_from lane counts)
each_from n lane [] e = omega (arith, e)
each_from n lane (c ∷ cs) e = (
  refl,
  let next : lane + 1 ≡ suc lane = omega arith in subst (λ (j : ℕ). AreEach n (suc lane) (turns_from j cs)) (sym next) (each_from n (suc lane) cs (omega (arith, e))),
)

forgotten_issue : (d : RegisterState) (path : List ℕ) (class : NodeClass) (fault : Option CatFault) → IfGranted (node_removed d path class fault).0 (IsIssueOf d DropNode)
forgotten_issue d path Folder None = tt
forgotten_issue d path (Domain number root) None = record {
  place = refl;
  run = refl;
  lanes = in_lanes 0 d.issued (length d.issued) (omega arith);
  homes = at_home 0 d.issued (length d.issued) DropNode (grant_of d number root None);
  steps = (each_from (length d.issued) 0 d.issued (omega arith), bare 0 d.issued);
  fresh = (refl, refl);
}
forgotten_issue d path class (Some fault) = tt

-- ---- objects

make_issue : (d : RegisterState) → 0 < length d.issued → (number : ℕ) (root : Id) (make : Make) (place : Option LinkPlace)
    → IfGranted (make_granted d number root make place).0 (IsIssueOf d (MakeObject make place))
make_issue d some number root make None =
    let fresh : Id = record { kind = kind_made make; domain = number; run = d.run; serial = d.serial } in
    let made : IsIssueOf d (MakeObject make None) _ = record {
      place = refl;
      run = refl;
      lanes = (lane_below d.issued fresh some, tt);
      homes = (refl, tt);
      steps = refl;
      fresh = (refl, refl);
    } in
    if_either (nat_lt d.serial serial_limit) (make_steps (record d { serial = d.serial + 1 }) number root fresh None)
    (refused (Limit (most_of limit.Serial) limit.Serial) d) (IsIssueOf d (MakeObject make None)) made tt
make_issue d some number root make (Some place) =
    let fresh : Id = record { kind = kind_made make; domain = number; run = d.run; serial = d.serial } in
    let same = length-counted d.issued place.group in
    let Below : ℕ → Type 0 = λ n. lane_of n fresh < length d.issued in
    let made : IsIssueOf d (MakeObject make (Some place)) _ = record {
      place = refl;
      run = refl;
      lanes = (lane_below d.issued place.group some, (subst Below (sym same) (lane_below d.issued fresh some), tt));
      homes = (refl, (ap (λ n. Some (lane_of n fresh)) (sym same), tt));
      steps = refl;
      fresh = (refl, refl);
    } in
    if_either (nat_lt d.serial serial_limit) (make_steps (record d { serial = d.serial + 1 }) number root fresh (Some place))
    (refused (Limit (most_of limit.Serial) limit.Serial) d) (IsIssueOf d (MakeObject make (Some place))) made tt

link_issue : (d : RegisterState) → 0 < length d.issued → (number : ℕ) (root id : Id) (title : List ℕ) (link : LinkTo) (m : Option Id)
    → IfGranted (object_granted d number root (PutLink id title link) m).0 (IsIssueOf d (PutLink id title link))
link_issue d some number root id title link None = record { place = refl; run = refl; lanes = (lane_below d.issued id some, tt); homes = (refl, tt); steps = refl; fresh = (refl, refl) }
link_issue d some number root id title link (Some target) = tt

or_else : Id → Option Id → Id
or_else other None = other
or_else other (Some id) = id

in_issue : (d : RegisterState) → 0 < length d.issued → (number : ℕ) (root : Id) (op : Op) → IfGranted (in_domain d op (Domain number root)).0 (IsIssueOf d op)
unfolding or_else
in_issue d some number root GetNode = tt
in_issue d some number root (PutNode folder) = tt
in_issue d some number root Flush = tt
in_issue d some number root DropNode = tt
in_issue d some number root ListNodes = tt
in_issue d some number root GetAcls = tt
in_issue d some number root (GetAcl name) = tt
in_issue d some number root (PutAcl name rights) = tt
in_issue d some number root (MakeObject make place) = make_issue d some number root make place
in_issue d some number root (PutLink id title link) = link_issue d some number root id title link (foreign number link)
in_issue d some number root op = record { place = refl; run = refl; lanes = (lane_below d.issued (or_else root (id_of op)) some, tt); homes = (refl, tt); steps = refl; fresh = (refl, refl) }

class_issue : (d : RegisterState) → 0 < length d.issued → (op : Op) (class : NodeClass) → IfGranted (in_domain d op class).0 (IsIssueOf d op)
class_issue d some op Folder = tt
class_issue d some op (Domain number root) = in_issue d some number root op

-- ---- the whole

granted_issue : (d : RegisterState) → 0 < length d.issued → (caller : Caller) (path : List ℕ) (op : Op) (node : Node) → IfGranted (granted d caller path op node).0 (IsIssueOf d op)
granted_issue d some caller path GetNode node = tt
granted_issue d some caller path (PutNode folder) node = made_issue d caller path folder _
granted_issue d some caller path Flush node = tt
granted_issue d some caller path DropNode node = forgotten_issue d path node.class _
granted_issue d some caller path ListNodes node = tt
granted_issue d some caller path GetAcls node = tt
granted_issue d some caller path (GetAcl name) node = read_issue d name _ _
granted_issue d some caller path (PutAcl name rights) node = put_issue d path name rights _ _
granted_issue d some caller path op node = class_issue d some op node.class

node_issue : (d : RegisterState) → 0 < length d.issued → (caller : Caller) (path : List ℕ) (op : Op) (m : Option Node) → IfGranted (at_maybe d caller path op m).0 (IsIssueOf d op)
node_issue d some caller path op None = tt
node_issue d some caller path op (Some node) =
    if_either (fits op node.class) (if has node.list caller (right_for op) then granted d caller path op node else (Denied (right_for op), passed d)) (refused NoDomain d) (IsIssueOf d op)
    (if_either (has node.list caller (right_for op)) (granted d caller path op node) (Denied (right_for op), passed d) (IsIssueOf d op) (granted_issue d some caller path op node) tt)
    tt

-- what a request is given that is granted
pub grants_are_issues : GrantsAreIssues
grants_are_issues d caller request some = node_issue d some caller request.path request.op (get d.catalogue.nodes (decided_at request))

-- the same of what a call says
pub issue_of : (d : RegisterState) (caller : Caller) (request : Request) (v : Verdict) (new : RegisterState) → 0 < length d.issued → Decides d caller request v new
    → IfGranted v (IsIssueOf d request.op)
issue_of d caller request (Granted t) new some h =
    let Given : Verdict × RegisterState → Type 0 = λ p. IfGranted p.0 (IsIssueOf d request.op) in
    subst Given (sym h) (grants_are_issues d caller request some)
issue_of d caller request (Answered r) new some h = tt
issue_of d caller request (Denied r) new some h = tt
issue_of d caller request (Refused r) new some h = tt
issue_of d caller request NoMemory new some h = tt
