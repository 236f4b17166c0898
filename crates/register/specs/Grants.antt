-- What a granted request is given: its place, the steps, and the lanes in which they are done.
use Rattle.std.specs.Prelude.{◌≡◌, ℕ, ◌+◌, List, [], ◌∷◌, length, map, option_map, Option, Some, None}
use Rattle.object_ids.specs.Ids.{lane_of}
use Rattle.object_ops.specs.Parts.{id_of, kind_made}
use Rattle.object_ops.specs.declared.grants.Grant.{Grant}
use Rattle.object_ops.specs.declared.grants.Step.{Step}
use Rattle.object_ops.specs.declared.grants.Step.TheVariants.{Only, Link, Make as Making}
use Rattle.object_ops.specs.declared.ops.Op.{Op}
use Rattle.object_ops.specs.declared.ops.Op.TheVariants.{DropNode, MakeObject}
use Rattle.register.specs.Tickets.{AreEach, AreInLanes, Issue}
use Rattle.register.specs.declared.tickets.Turn.{Turn}
use Rattle.register.specs.declared.verdicts.Verdict.{Verdict}
use Rattle.register.specs.declared.verdicts.Verdict.TheVariants.{Granted}
use Rattle.domains.specs.Contents.{IsDomainAt}
use Rattle.register.specs.Decided.{RegisterState}

-- a link is put in the lane of its group, and what is made in that of the new object; every other step is done in the lane of the object that it
-- names
abbrev pub IsAtHome : ℕ → Op → Grant → Option Step → ℕ → Type 0
IsAtHome lanes op grant None lane = Unit {0}
IsAtHome lanes (MakeObject make (Some place)) grant (Some Link) lane = lane_of lanes place.group ≡ lane
IsAtHome lanes (MakeObject make place) grant (Some step) lane = option_map (lane_of lanes) grant.fresh ≡ Some lane
IsAtHome lanes op grant (Some step) lane = option_map (lane_of lanes) (id_of op) ≡ Some lane

abbrev pub AreAtHome : ℕ → Op → Grant → List Turn → Type 0
AreAtHome lanes op grant [] = Unit {0}
AreAtHome lanes op grant (t ∷ ts) = IsAtHome lanes op grant t.step t.lane × AreAtHome lanes op grant ts

-- no step: the objects of a domain are dropped
abbrev pub AreBare : List Turn → Type 0
AreBare [] = Unit {0}
AreBare (t ∷ ts) = (t.step ≡ None) × AreBare ts

-- the steps of a request: the link comes before the object, and a removed domain has one turn of each lane
abbrev pub HasSteps : ℕ → Op → List Turn → Type 0
HasSteps lanes DropNode turns = AreEach lanes 0 turns × AreBare turns
HasSteps lanes (MakeObject make (Some place)) turns = map (λ t. t.step) turns ≡ Some Link ∷ Some Making ∷ []
HasSteps lanes op turns = map (λ t. t.step) turns ≡ Some Only ∷ []

-- a new object's id is of its kind and domain, of this run, and has the next serial, which is taken; without a new object none is
abbrev pub IsFreshFor : RegisterState → Op → Grant → Type 0
IsFreshFor d (MakeObject make place) grant =
    (grant.serial ≡ d.serial + 1) × (grant.fresh ≡ Some (record { kind = kind_made make; domain = grant.number; run = d.run; serial = d.serial }))
IsFreshFor d op grant = (grant.serial ≡ d.serial) × (grant.fresh ≡ None)

pub record IsIssueOf (d : RegisterState) (op : Op) (issue : Issue) : Type 0 where
  pub place : issue.place ≡ d.places
  pub run : issue.grant.run ≡ d.run
  pub lanes : AreInLanes (length d.issued) issue.left
  pub homes : AreAtHome (length d.issued) op issue.grant issue.left
  pub steps : HasSteps (length d.issued) op issue.left
  pub fresh : IsFreshFor d op issue.grant

-- where a request is granted, this holds of what it is given
abbrev pub IfGranted : Verdict → (Issue → Type 0) → Type 0
IfGranted (Granted issue) P = P issue
IfGranted verdict P = Unit {0}

-- the turns that a verdict gives
abbrev pub turns_of : Verdict → List Turn
turns_of (Granted issue) = issue.left
turns_of verdict = []

-- it is of the domain that stood at the path, and tells the run and the next serial that the register has afterwards
pub record IsGrantOf (old new : RegisterState) (path : List ℕ) (issue : Issue) : Type 0 where
  pub domain : IsDomainAt old.catalogue path issue.grant.number issue.grant.root
  pub run : issue.grant.run ≡ new.run
  pub serial : issue.grant.serial ≡ new.serial
