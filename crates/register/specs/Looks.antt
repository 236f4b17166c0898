-- What a request meets at the node that decides over it, and what its parts then leave before the place is counted.
use Rattle.std.specs.Prelude.{◌≡◌, ℕ, List, Option, Some, None, Result, Err, true, if◌then◌else◌}
use Rattle.access_lists.specs.declared.people.Caller.{Caller}
use Rattle.access_lists.specs.InForce.{has}
use Rattle.access_lists.specs.declared.rights.Rights.{Rights}
use Rattle.domains.specs.Changes.{Blames}
use Rattle.domains.specs.Contents.{NumberFits}
use Rattle.domains.specs.declared.classes.Node.{Node}
use Rattle.domains.specs.declared.faults.CatFault.{CatFault}
use Rattle.domains.specs.declared.faults.CatFault.TheVariants as cat
use Rattle.object_ops.specs.Needs.{right_for}
use Rattle.object_ops.specs.declared.ops.Op.{Op}
use Rattle.object_ops.specs.declared.ops.Request.{Request}
use Rattle.object_ops.specs.declared.replies.Reply.{Reply}
use Rattle.object_ops.specs.declared.replies.Reply.TheVariants.{Done}
use Rattle.object_ops.specs.declared.refusals.Refusal.{Refusal}
use Rattle.object_ops.specs.declared.refusals.Refusal.TheVariants.{NoName}
use Rattle.register.specs.declared.verdicts.Verdict.{Verdict}
use Rattle.register.specs.declared.verdicts.Verdict.TheVariants.{Answered, Refused, NoMemory}
use Rattle.register.specs.declared.looking.Looked.{Looked}
use Rattle.register.specs.declared.looking.Looked.TheVariants as looks
use Rattle.register.specs.Decided.{IsDenial, RegisterState, acl_body, cat_refusal, decided, fits, is_of_nodes, passed}

abbrev pub looked : Caller → Op → Option Node → Looked
looked caller op None = looks.Missing
looked caller op (Some node) =
    if fits op node.class then (if has node.list caller (right_for op) then looks.Allowed node.class else looks.Denied) else looks.Missing

-- what is met fits what is asked
abbrev pub IsFitting : Op → Looked → Type 0
IsFitting op looks.Missing = Unit {0}
IsFitting op looks.Denied = Unit {0}
IsFitting op (looks.Allowed class) = (fits op class ≡ true) × NumberFits class

-- answered so, or there was no memory
abbrev pub VerdictAnswers : Reply → Verdict → Type 0
VerdictAnswers reply NoMemory = Unit {0}
VerdictAnswers reply verdict = verdict ≡ Answered reply

-- refused so, or there was no memory
abbrev pub VerdictRefuses : Refusal → Verdict → Type 0
VerdictRefuses refusal NoMemory = Unit {0}
VerdictRefuses refusal verdict = verdict ≡ Refused refusal

-- a fault of the catalogue is refused so; want of memory stays what it is
abbrev pub VerdictRefusesFault : List ℕ → CatFault → Verdict → Type 0
VerdictRefusesFault path cat.NoMemory verdict = verdict ≡ NoMemory
VerdictRefusesFault path fault verdict = VerdictRefuses (cat_refusal path fault) verdict

-- a change is refused so, or it is made; or there was no memory
abbrev pub MayBlame : {A : Type 0} → Result A CatFault → Option CatFault → Type 0
MayBlame (Err cat.NoMemory) fault = Unit {0}
MayBlame result fault = Blames result fault

-- an entry is answered, or the name is refused
abbrev pub VerdictAnswersEntry : List ℕ → Option Rights → Verdict → Type 0
VerdictAnswersEntry name None = VerdictRefuses (NoName name)
VerdictAnswersEntry name (Some rights) = VerdictAnswers (Done 200 (acl_body name rights))

-- a call that takes no memory settles as a definition says; the place is counted afterwards
abbrev pub Settles : Verdict × RegisterState → Verdict → RegisterState → Type 0
Settles p NoMemory new = ⊥
Settles p verdict new = (verdict, passed new) ≡ p

-- a call that takes memory settles so, or leaves all as it was
abbrev pub MaySettle : Verdict × RegisterState → RegisterState → Verdict → RegisterState → Type 0
MaySettle p old NoMemory new = new ≡ old
MaySettle p old verdict new = (verdict, passed new) ≡ p

-- the same of any operation: memory is taken on those on folders, domains and access lists alone
abbrev pub SettlesOp : Op → Verdict × RegisterState → RegisterState → Verdict → RegisterState → Type 0
SettlesOp op p old NoMemory new = (is_of_nodes op ≡ true) × (new ≡ old)
SettlesOp op p old verdict new = (verdict, passed new) ≡ p

-- a request is decided, but for the place
abbrev pub DecidesUncounted : RegisterState → Caller → Request → Verdict → RegisterState → Type 0
DecidesUncounted d caller request NoMemory new = (is_of_nodes request.op ≡ true) × (IsDenial (decided d caller request).0 → ⊥) × (new ≡ d)
DecidesUncounted d caller request verdict new = (verdict, passed new) ≡ decided d caller request
