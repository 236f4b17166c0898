-- A small service whose requests have two turns: an object is linked from a group, and then made with a fresh id.
use Rattle.std.specs.Prelude.{◌≡◌, ◌≢◌, ℕ, ◌+◌, ◌%◌, ◌<◌, Bool, true, false, List, [], ◌∷◌, Option, Some, None, refl, if◌then◌else◌, ◌==◌}
use Rattle.std.specs.List.{AllByRecursion}
use Rattle.lane_histories.specs.Services.{Service, Turns, no_turn, one_turn, two_turns, each_lane}
use Rattle.lane_histories.specs.Histories.{changed_at}
use Rattle.lane_histories.specs.JournalContents.{JournalContents}
use Rattle.lane_histories.specs.Ready.{Readiness}

-- ---- what the register gives

pub data Step : Type 0 where
  link : Step
  make : Step

-- a turn of a lane, with its ticket's number; without a step all objects are dropped
pub record Turn : Type 0 where
  pub lane : ℕ
  pub ticket : ℕ
  pub step : Option Step

pub record Issue : Type 0 where
  pub fresh : ℕ
  pub left : List Turn

-- the next serial, and how many tickets each lane gave
pub record Register : Type 0 where
  pub serial : ℕ
  pub issued : ℕ → ℕ

pub data Request : Type 0 where
  look : Request
  make_in : ℕ → Request
  drop_all : Request

pub data Verdict : Type 0 where
  answered : Verdict
  granted : Issue → Verdict

abbrev pub lane_of : ℕ → ℕ
lane_of id = id % 2

abbrev pub turn_at : (ℕ → ℕ) → ℕ → Step → Turn
turn_at issued id step = record { lane = lane_of id; ticket = issued (lane_of id); step = Some step }

abbrev pub counted : (ℕ → ℕ) → ℕ → ℕ → ℕ
counted issued id = changed_at (lane_of id) (issued (lane_of id) + 1) issued

abbrev pub each_counted : (ℕ → ℕ) → ℕ → ℕ
each_counted issued l = if l == 0 then issued 0 + 1 else (if l == 1 then issued 1 + 1 else issued l)

abbrev pub verdict_of : Register → Request → Verdict × Register
verdict_of d look = (answered, d)
verdict_of d (make_in group) =
    let first = counted d.issued group in (
      granted (record { fresh = d.serial; left = turn_at d.issued group link ∷ turn_at first d.serial make ∷ [] }),
      record { serial = d.serial + 1; issued = counted first d.serial },
    )
verdict_of d drop_all = (
  granted (record {
    fresh = 0;
    left = record { lane = 0; ticket = d.issued 0; step = None } ∷ record { lane = 1; ticket = d.issued 1; step = None } ∷ [];
  }),
  record d { issued = each_counted d.issued },
)

-- ---- what a lane does

-- an object's id, and the ids that it links to
abbrev pub Objects : Type 0
Objects = List (ℕ × List ℕ)

pub data Task : Type 0 where
  link_to : ℕ → ℕ → Task
  make_at : ℕ → Task
  forget : Task

abbrev pub linked : ℕ → ℕ → Objects → Bool × Objects
linked group fresh [] = (false, [])
linked group fresh (o ∷ os) = if o.0 == group then (true, (o.0, fresh ∷ o.1) ∷ os) else ((linked group fresh os).0, o ∷ (linked group fresh os).1)

abbrev pub acted : Task → Objects → Bool × Objects
acted (link_to group fresh) os = linked group fresh os
acted (make_at fresh) os = (true, (fresh, []) ∷ os)
acted forget os = (true, [])

-- the task of a turn of a request
abbrev pub task_of : Request → ℕ → Option Step → Task
task_of (make_in group) fresh (Some link) = link_to group fresh
task_of (make_in group) fresh (Some make) = make_at fresh
task_of request fresh step = forget

abbrev pub listed : Request → ℕ → List Turn → Turns Task
listed request fresh [] = no_turn
listed request fresh (t ∷ []) = one_turn t.lane (task_of request fresh t.step)
listed request fresh (t ∷ u ∷ ts) = two_turns t.lane (task_of request fresh t.step) u.lane (task_of request fresh u.step)

abbrev pub turns_of : Request → Verdict → Turns Task
turns_of request answered = no_turn
turns_of drop_all (granted issue) = each_lane forget
turns_of look (granted issue) = listed look issue.fresh issue.left
turns_of (make_in group) (granted issue) = listed (make_in group) issue.fresh issue.left

-- to drop all takes no memory
abbrev pub MayBeShort : Task → Type 0
MayBeShort (link_to group fresh) = Unit {0}
MayBeShort (make_at fresh) = Unit {0}
MayBeShort forget = ⊥

abbrev pub links : Service
links = record {
  Register = Register;
  Asked = Request;
  Verdict = Verdict;
  Task = Task;
  Objects = Objects;
  Reply = Bool;
  Catalogue = ℕ;
  lanes = 2;
  MayAnswer = λ d request verdict. verdict ≡ (verdict_of d request).0;
  decided = λ d request verdict. (verdict_of d request).1;
  turns = turns_of;
  drawn = λ d. record d { issued = each_counted d.issued };
  recorded = λ found d. d;
  acted = acted;
  went_well = λ reply. reply;
  MayBeShort = MayBeShort;
  catalogue = λ d. d.serial;
  catalogue_drawn = λ d. refl;
  catalogue_recorded = λ found d. refl;
  Alike = λ serial one other. one ≡ other;
  alike_itself = λ serial one. refl;
}

-- a journal holds the objects of each lane
abbrev pub contents : JournalContents links
contents = record {
  Content = ℕ → Objects;
  TellsCatalogue = λ held serial. Unit {0};
  TellsLane = λ held l os. held l ≡ os;
}

-- ---- what a task needs

-- the id of each object was given out
abbrev pub AreGiven : Register → Objects → Type 0
AreGiven d = AllByRecursion (λ o. o.0 < d.serial)

abbrev pub IsWithout : ℕ → Objects → Type 0
IsWithout fresh = AllByRecursion (λ o. o.0 ≢ fresh)

abbrev pub Needs : Task → Objects → Type 0
Needs (link_to group fresh) os = IsWithout fresh os
Needs (make_at fresh) os = IsWithout fresh os
Needs forget os = Unit {0}

abbrev pub readiness : Readiness links
readiness = record { Given = AreGiven; Needs = Needs }
