-- What an operation that isn't kept leaves of folders, domains and lists.
use Rattle.std.proofs.Common.{◌≡◌, ◌+◌, inl, inr, ℕ, List, Bool, true, false, Option, Some, None, nat_lt, if◌then◌else◌, refl, ap, ◌∙◌}
use Rattle.std.specs.FinMap.{get}
use Rattle.object_ids.specs.IdValues.{Id}
use Rattle.object_ids.specs.declared.limits.LimitKind.TheVariants as limit
use Rattle.access_lists.specs.InForce.{has}
use Rattle.access_lists.specs.declared.people.Caller.{Caller}
use Rattle.access_lists.specs.declared.rights.Rights.{Rights}
use Rattle.domains.specs.declared.classes.Node.{Node}
use Rattle.domains.specs.declared.classes.NodeClass.{NodeClass}
use Rattle.domains.specs.declared.classes.NodeClass.TheVariants.{Folder, Domain}
use Rattle.object_ops.specs.Needs.{decided_at, right_for}
use Rattle.object_ops.specs.Parts.{id_of, kind_made}
use Rattle.object_ops.specs.declared.ops.LinkPlace.{LinkPlace}
use Rattle.object_ops.specs.declared.ops.Make.{Make}
use Rattle.object_ops.specs.declared.ops.Op.{Op}
use Rattle.object_ops.specs.declared.ops.Op.TheVariants as op
use Rattle.object_ops.specs.declared.ops.Request.{Request}
use Rattle.object_ops.specs.declared.refusals.Refusal.TheVariants.{NoDomain, Limit}
use Rattle.register.specs.Decided.{RegisterState, at_maybe, at_node, decided, entry_read, fits, foreign, granted, in_domain, make_granted, make_steps, most_of, object_granted, one_step, passed, refused, serial_limit}
use Rattle.register.specs.declared.verdicts.Verdict.{Verdict}
use Rattle.register.specs.declared.verdicts.Verdict.TheVariants as verdict
use Rattle.service_core.specs.Steps.{World, IsAnswered}
use Rattle.service_core.specs.declared.answers.What.{What}
use Rattle.service_core.specs.declared.answers.What.TheVariants.{Replied, Denied, NoMemory}
use Rattle.rest_session.specs.Sessions.{is_to_keep}

-- ---- what isn't kept

abbrev pub Stays : RegisterState → Verdict × RegisterState → Type 0
Stays d p = p.1.catalogue ≡ d.catalogue

steps_stay : (d : RegisterState) (number : ℕ) (root fresh : Id) (place : Option LinkPlace) → Stays d (make_steps d number root fresh place)
steps_stay d number root fresh None = refl
steps_stay d number root fresh (Some place) = refl

make_stays : (d : RegisterState) (number : ℕ) (root : Id) (make : Make) (place : Option LinkPlace) → Stays d (make_granted d number root make place)
make_stays d number root make place = by_test (nat_lt d.serial serial_limit)
  where
    by_test : (b : Bool)
        → Stays d (if b then make_steps (record d { serial = d.serial + 1 }) number root (record { kind = kind_made make; domain = number; run = d.run; serial = d.serial }) place
        else refused (Limit (most_of limit.Serial) limit.Serial) d)
    by_test true = steps_stay (record d { serial = d.serial + 1 }) number root (record { kind = kind_made make; domain = number; run = d.run; serial = d.serial }) place
    by_test false = refl

one_stays : (d : RegisterState) (number : ℕ) (root : Id) (id : Option Id) → Stays d (one_step d number root id)
one_stays d number root None = refl
one_stays d number root (Some id) = refl

object_stays : (d : RegisterState) (number : ℕ) (root : Id) (asked : Op) (target : Option Id) → Stays d (object_granted d number root asked target)
object_stays d number root asked None = one_stays d number root (id_of asked)
object_stays d number root asked (Some target) = refl

class_stays : (d : RegisterState) (asked : Op) (class : NodeClass) → ((number : ℕ) (root : Id) → Stays d (in_domain d asked (Domain number root)))
    → Stays d (in_domain d asked class)
class_stays d asked Folder stays = refl
class_stays d asked (Domain number root) stays = stays number root

entry_stays : (d : RegisterState) (name : List ℕ) (entry : Option Rights) → Stays d (entry_read d name entry)
entry_stays d name None = refl
entry_stays d name (Some rights) = refl

granted_stays : (d : RegisterState) (caller : Caller) (path : List ℕ) (asked : Op) (node : Node) → is_to_keep asked ≡ false → Stays d (granted d caller path asked node)
granted_stays d caller path op.GetNode node e = refl
granted_stays d caller path (op.PutNode folder) node e = let no : true ≡ false = e in absurd (cc)
granted_stays d caller path op.Flush node e = let no : true ≡ false = e in absurd (cc)
granted_stays d caller path op.DropNode node e = let no : true ≡ false = e in absurd (cc)
granted_stays d caller path op.ListNodes node e = refl
granted_stays d caller path op.GetAcls node e = refl
granted_stays d caller path (op.GetAcl name) node e = entry_stays d name (get node.list name)
granted_stays d caller path (op.PutAcl name rights) node e = let no : true ≡ false = e in absurd (cc)
granted_stays d caller path (op.MakeObject make link) node e = class_stays d (op.MakeObject make link) node.class (λ number root. make_stays d number root make link)
granted_stays d caller path (op.GetObject id) node e = class_stays d (op.GetObject id) node.class (λ number root. object_stays d number root (op.GetObject id) None)
granted_stays d caller path (op.DropObject id) node e = class_stays d (op.DropObject id) node.class (λ number root. object_stays d number root (op.DropObject id) None)
granted_stays d caller path (op.ListLinks id) node e = class_stays d (op.ListLinks id) node.class (λ number root. object_stays d number root (op.ListLinks id) None)
granted_stays d caller path (op.GetLink id title) node e = class_stays d (op.GetLink id title) node.class (λ number root. object_stays d number root (op.GetLink id title) None)
granted_stays d caller path (op.PutLink id title link) node e =
    class_stays d (op.PutLink id title link) node.class (λ number root. object_stays d number root (op.PutLink id title link) (foreign number link))
granted_stays d caller path (op.DropLink id title) node e = class_stays d (op.DropLink id title) node.class (λ number root. object_stays d number root (op.DropLink id title) None)
granted_stays d caller path (op.ListAttributes id) node e = class_stays d (op.ListAttributes id) node.class (λ number root. object_stays d number root (op.ListAttributes id) None)
granted_stays d caller path (op.GetAttribute id name) node e =
    class_stays d (op.GetAttribute id name) node.class (λ number root. object_stays d number root (op.GetAttribute id name) None)
granted_stays d caller path (op.PutAttribute id name attribute) node e =
    class_stays d (op.PutAttribute id name attribute) node.class (λ number root. object_stays d number root (op.PutAttribute id name attribute) None)
granted_stays d caller path (op.DropAttribute id name) node e =
    class_stays d (op.DropAttribute id name) node.class (λ number root. object_stays d number root (op.DropAttribute id name) None)
granted_stays d caller path (op.GetShape id) node e = class_stays d (op.GetShape id) node.class (λ number root. object_stays d number root (op.GetShape id) None)
granted_stays d caller path (op.PutShape id dims) node e = class_stays d (op.PutShape id dims) node.class (λ number root. object_stays d number root (op.PutShape id dims) None)
granted_stays d caller path (op.GetElem id) node e = class_stays d (op.GetElem id) node.class (λ number root. object_stays d number root (op.GetElem id) None)
granted_stays d caller path (op.GetValue id select) node e = class_stays d (op.GetValue id select) node.class (λ number root. object_stays d number root (op.GetValue id select) None)
granted_stays d caller path (op.PutValue id part value) node e =
    class_stays d (op.PutValue id part value) node.class (λ number root. object_stays d number root (op.PutValue id part value) None)
granted_stays d caller path (op.GetPoints id points) node e =
    class_stays d (op.GetPoints id points) node.class (λ number root. object_stays d number root (op.GetPoints id points) None)

node_stays : (d : RegisterState) (caller : Caller) (path : List ℕ) (asked : Op) (node : Node) → is_to_keep asked ≡ false → Stays d (at_node d caller path asked node)
node_stays d caller path asked node e = by_tests (fits asked node.class) (has node.list caller (right_for asked))
  where
    by_tests : (b c : Bool)
        → Stays d (if b then (if c then granted d caller path asked node else (verdict.Denied (right_for asked), passed d)) else refused NoDomain d)
    by_tests true true = granted_stays d caller path asked node e
    by_tests true false = refl
    by_tests false c = refl

maybe_stays : (d : RegisterState) (caller : Caller) (path : List ℕ) (asked : Op) (node : Option Node) → is_to_keep asked ≡ false
    → Stays d (at_maybe d caller path asked node)
maybe_stays d caller path asked None e = refl
maybe_stays d caller path asked (Some node) e = node_stays d caller path asked node e

decided_stays : (d : RegisterState) (caller : Caller) (request : Request) → is_to_keep request.op ≡ false → Stays d (decided d caller request)
decided_stays d caller request e = maybe_stays d caller request.path request.op (get d.catalogue.nodes (decided_at request)) e

-- whatever is answered, the catalogue stays
pub answered_stays : (w v : World) (caller : Caller) (request : Request) (what : What) → IsAnswered w caller request what v → is_to_keep request.op ≡ false
    → v.register.catalogue ≡ w.register.catalogue
answered_stays w v caller request (Replied r) is e = ap (λ p. p.1.register.catalogue) is ∙ decided_stays w.register caller request e
answered_stays w v caller request (Denied right) is e = ap (λ p. p.1.register.catalogue) is ∙ decided_stays w.register caller request e
answered_stays w v caller request NoMemory is e =
    elim is.1 [
      | inl none ↦ ap (λ x. x.register.catalogue) none.1
      | inr short ↦ ap (λ x. x.catalogue) short.0 ∙ decided_stays w.register caller request e
    ]
