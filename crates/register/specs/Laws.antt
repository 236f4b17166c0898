-- What holds of every decision, and of every cut.
use Rattle.std.specs.Prelude.{◌≡◌, ◌↔◌, ℕ, List, ◌+◌, ◌<◌, ◌≤◌, true, false, length, Some}
use Rattle.std.specs.FinMap.{get}
use Rattle.flush_journal.specs.Records.{Held}
use Rattle.access_lists.specs.InForce.{has}
use Rattle.access_lists.specs.declared.people.Caller.{Caller}
use Rattle.access_lists.specs.declared.right.Right.{Right}
use Rattle.domains.specs.Changes.{root_of}
use Rattle.domains.specs.Contents.{Contents, IsCatalogue, IsDomainAt}
use Rattle.domains.specs.declared.classes.Node.{Node}
use Rattle.object_ids.specs.IdValues.{Id}
use Rattle.object_ops.specs.Needs.{decided_at, right_for}
use Rattle.object_ops.specs.declared.ops.Request.{Request}
use Rattle.object_ops.specs.declared.refusals.Refusal.{Refusal}
use Rattle.object_ops.specs.declared.refusals.Refusal.TheVariants.{NoDomain}
use Rattle.register.specs.Decided.{Decides, IsRegister, RegisterState, decided, drawn, fits, left_by, passed}
use Rattle.register.specs.Grants.{IfGranted, IsGrantOf, IsIssueOf, turns_of}
use Rattle.register.specs.Installed.Registers.{DescribesRegister}
use Rattle.register.specs.Kept.{AreTexts, RegisterSays, all_kept}
use Rattle.register.specs.Since.{CutsRegister, HaveSameRegister, IsSince, StillSays, TellsRegister}
use Rattle.register.specs.Tickets.{Issues, turns_from}
use Rattle.register.specs.declared.verdicts.Verdict.{Verdict}
use Rattle.register.specs.declared.verdicts.Verdict.TheVariants.{Denied, Refused}

-- one place more was given
abbrev pub TakesPlace : Type 0
TakesPlace = (d : RegisterState) (caller : Caller) (request : Request) → (decided d caller request).1.places ≡ d.places + 1

-- a denial, and what is refused when a request is decided, leave the register but for the place
abbrev pub DecisionsKeep : Type 0
DecisionsKeep = (d : RegisterState) (caller : Caller) (request : Request)
    → ((right : Right) → (decided d caller request).0 ≡ Denied right → (decided d caller request).1 ≡ passed d)
    × ((refusal : Refusal) → (decided d caller request).0 ≡ Refused refusal → (decided d caller request).1 ≡ passed d)

-- what is granted has the turns of the request's steps
abbrev pub GrantsAreIssues : Type 0
GrantsAreIssues = (d : RegisterState) (caller : Caller) (request : Request) → 0 < length d.issued → IfGranted (decided d caller request).0 (IsIssueOf d request.op)

-- what is held tells the register after a decision where it told it before, but for what is marked
abbrev pub DecisionsKeepWhatIsSaid : Type 0
DecisionsKeepWhatIsSaid = (d : RegisterState) (caller : Caller) (request : Request) (held : Held) → RegisterSays d held → RegisterSays (decided d caller request).1 held

-- ---- which verdict comes

-- a node of the wanted class stands at the path that decides, and its list doesn't give the caller the right
pub record IsDenied (d : RegisterState) (caller : Caller) (request : Request) : Type 0 where
  pub node : Node
  pub there : get d.catalogue.nodes (decided_at request) ≡ Some node
  pub wanted : fits request.op node.class ≡ true
  pub list : has node.list caller (right_for request.op) ≡ false

-- no node of the wanted class stands at the path that decides
abbrev pub IsMissing : RegisterState → Request → Type 0
IsMissing d request = (node : Node) → get d.catalogue.nodes (decided_at request) ≡ Some node → fits request.op node.class ≡ true → ⊥

abbrev pub DeniedExactly : Type 0
DeniedExactly = (d : RegisterState) (caller : Caller) (request : Request) (right : Right)
    → ((decided d caller request).0 ≡ Denied right) ↔ ((right ≡ right_for request.op) × IsDenied d caller request)

abbrev pub NoDomainExactly : Type 0
NoDomainExactly = (d : RegisterState) (caller : Caller) (request : Request) → ((decided d caller request).0 ≡ Refused NoDomain) ↔ IsMissing d request

-- ---- what goes on from decision to decision

-- it stood at its path before; or it has the next number, and its root the next serial, and both are taken
pub data StoodOrIsNew (old new : RegisterState) (path : List ℕ) (number : ℕ) (root : Id) : Type 0 where
  stood : IsDomainAt old.catalogue path number root → StoodOrIsNew old new path number root
  is_new : number ≡ old.catalogue.next → root ≡ root_of old.catalogue.next old.run old.serial → new.serial ≡ old.serial + 1 → old.catalogue.next < new.catalogue.next
      → StoodOrIsNew old new path number root

-- the run and the lanes stay; serials and numbers of domains that were given out stay so, and no domain comes of nothing
pub record Continues (old new : RegisterState) : Type 0 where
  pub run : new.run ≡ old.run
  pub lanes : length new.issued ≡ length old.issued
  pub serial : old.serial ≤ new.serial
  pub next : old.catalogue.next ≤ new.catalogue.next
  pub domains : (path : List ℕ) (number : ℕ) (root : Id) → IsDomainAt new.catalogue path number root → StoodOrIsNew old new path number root

abbrev pub DecisionsContinue : Type 0
DecisionsContinue = (d : RegisterState) (caller : Caller) (request : Request) → Continues d (decided d caller request).1

abbrev pub DecisionsIssue : Type 0
DecisionsIssue = (d : RegisterState) (caller : Caller) (request : Request)
    → Issues d.issued (turns_of (decided d caller request).0) (decided d caller request).1.issued

abbrev pub GrantsAreOfDomains : Type 0
GrantsAreOfDomains = (d : RegisterState) (caller : Caller) (request : Request)
    → IfGranted (decided d caller request).0 (IsGrantOf d (decided d caller request).1 request.path)

-- a call leaves the register that its verdict tells
abbrev pub CallsLeave : Type 0
CallsLeave = (d : RegisterState) (caller : Caller) (request : Request) (v : Verdict) (new : RegisterState) → Decides d caller request v new → new ≡ left_by d caller request v

-- ---- cuts

-- a drawn cut gives the next ticket of each lane, and changes nothing that is held
pub record DrawsTickets (d : RegisterState) : Type 0 where
  pub issues : Issues d.issued (turns_from 0 d.issued) (drawn d).issued
  pub lanes : length (drawn d).issued ≡ length d.issued
  pub says : StillSays d (drawn d)

-- neither a drawn cut nor a cut changes the catalogue
pub record CatalogueStays (d : RegisterState) : Type 0 where
  pub drawn : (drawn d).catalogue ≡ d.catalogue
  pub cut : (all_kept d).catalogue ≡ d.catalogue

-- ---- since the last cut

-- a register in which nothing is marked says what tells it, and is since itself
abbrev pub KeptRegistersSay : Type 0
KeptRegistersSay = (d : RegisterState) (held : Held) → RegisterSays (all_kept d) held ↔ TellsRegister held d.run d.catalogue

-- a change that is marked leaves since when the register is
abbrev pub ChangesStaySince : Type 0
ChangesStaySince = (last old new : RegisterState) → IsSince last old → StillSays old new → IsSince last new

-- where what was held told the register as it was at its last cut, and each change since was marked, a cut tells it as it stands
abbrev pub CutsTellRegister : Type 0
CutsTellRegister = (last d : RegisterState) (before after : Held)
    → IsSince last d → TellsRegister before last.run last.catalogue → CutsRegister d before after
    → TellsRegister after d.run d.catalogue × IsSince d (all_kept d)

-- records beside those of the register don't change what is told of it
abbrev pub OthersKeepRegister : Type 0
OthersKeepRegister = (old new : Held) → HaveSameRegister old new → ((run : ℕ) (c : Contents) → TellsRegister old run c → TellsRegister new run c)

-- what is told of a register describes it: an install finds the same
abbrev pub ToldIsDescribed : Type 0
ToldIsDescribed = (d : RegisterState) (held : Held) → IsRegister d → IsCatalogue d.catalogue → AreTexts d.catalogue
    → TellsRegister held d.run d.catalogue ↔ DescribesRegister held d.run d.catalogue
