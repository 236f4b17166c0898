-- Which events calls are.
--     DecisionsAnswer       what a decision of the register leaves is what its verdict leaves
--     CutsLeave             what a drawn cut and a cut of the register leave is what their items leave
--     StepsAct, DropsAct    a step of an owner, and the drop of a domain, are what their tasks do
--     DropsReply            the drop of a domain replies in each lane what its place is answered
--     TurnsAreAtHome        the next turn of a lane touches an object of the lane
use Rattle.std.specs.Prelude.{◌≡◌, ℕ, true, false}
use Rattle.object_ops.specs.declared.grants.Grant.{Grant}
use Rattle.object_ops.specs.declared.grants.Step.{Step}
use Rattle.object_ops.specs.declared.ops.Op.{Op}
use Rattle.object_acts.specs.Objects.{Objects}
use Rattle.chunk_owner.specs.Acts.{IsTouchedIn, acted, touched}
use Rattle.chunk_owner.specs.Lanes.{Forgets}
use Rattle.register.specs.Decided.{Decides, RegisterState, drawn}
use Rattle.register.specs.Kept.{all_kept}
use Rattle.register.specs.Tickets.{Issue}
use Rattle.register.specs.declared.verdicts.Verdict.{Verdict}
use Rattle.register.specs.declared.verdicts.Verdict.TheVariants.{Granted}
use Rattle.lane_histories.specs.Histories.{History, part_of}
use Rattle.lane_histories.specs.Legal.{IsLegal, IsNext}
use Rattle.lane_histories.specs.Replies.{by_register, by_turn}
use Rattle.lane_histories.specs.Services.{World}
use Rattle.lane_histories.specs.declared.items.Part.{Part}
use Rattle.service_histories.specs.ArrayServices.{Asked, MayDecide, array_service, done_by, left_by}
use Rattle.service_histories.specs.PlainSteps.{IsOverLanes, answer_of}
use Rattle.service_histories.specs.declared.tasks.Task.TheVariants.{TakesStep, DropsDomain}

-- the verdict may come, and this is what it leaves
pub record IsAnswer (d : RegisterState) (asked : Asked) (v : Verdict) (new : RegisterState) : Type 0 where
  pub may : MayDecide d asked v
  pub leaves : new ≡ left_by d asked v

abbrev pub DecisionsAnswer : Type 0
DecisionsAnswer = (d : RegisterState) (asked : Asked) (v : Verdict) (new : RegisterState)
    → Decides d asked.0.value asked.1.value v new → IsAnswer d asked v new

-- a drawn cut gives a ticket of each lane; a cut takes all as kept where it found memory, and else leaves the register
pub record LeavesByCuts (lanes : ℕ) (d : RegisterState) : Type 0 where
  pub drawn : (array_service lanes).drawn d ≡ drawn d
  pub whole : (array_service lanes).recorded true d ≡ all_kept d
  pub short : (array_service lanes).recorded false d ≡ d

abbrev pub CutsLeave : ℕ → Type 0
CutsLeave lanes = (d : RegisterState) → LeavesByCuts lanes d

-- a step replies and leaves what its turn does, and may find no memory
pub record IsStepsTurn (lanes : ℕ) (g : Grant) (op : Op) (s : Step) : Type 0 where
  pub acts : (m : Objects) → (array_service lanes).acted (TakesStep g op s) m ≡ acted g op s m
  pub short : (array_service lanes).MayBeShort (TakesStep g op s)

abbrev pub StepsAct : ℕ → Type 0
StepsAct lanes = (g : Grant) (op : Op) (s : Step) → IsStepsTurn lanes g op s

-- a drop always finds memory
abbrev pub DropsFindMemory : ℕ → Type 0
DropsFindMemory lanes = (number : ℕ) → (array_service lanes).MayBeShort (DropsDomain number) → ⊥

-- the objects without those of a domain
abbrev pub DropsAct : Type 0
DropsAct = (number : ℕ) (old new : Objects) → Forgets number old new → new ≡ (done_by (DropsDomain number) old).1

-- in each lane the drop of a domain replies what its place is answered
abbrev pub DropsReply : Type 0
DropsReply = (number : ℕ) (old : Objects) (issue : Issue)
    → answer_of (by_turn (done_by (DropsDomain number) old).0) ≡ answer_of (by_register (Granted issue))

abbrev pub TurnsAreAtHome : ℕ → Type 0
TurnsAreAtHome lanes =
    (start : World (array_service lanes)) (h : History (array_service lanes)) → IsOverLanes lanes start
    → IsLegal (array_service lanes) start h
    → (l place : ℕ) (part : Part) (g : Grant) (op : Op) (s : Step)
    → IsNext (array_service lanes) h l (part_of place part (TakesStep g op s)) → IsTouchedIn l lanes (touched g op s)
