-- When the turns of a request can be taken, one after another.
use Rattle.std.specs.Prelude.{◌≡◌, ℕ, ◌<◌, List, [], ◌∷◌, true, Option, Some, None}
use Rattle.object_ids.specs.declared.ids.Kind.TheVariants.{Group}
use Rattle.object_ops.specs.declared.ops.Op.{Op}
use Rattle.object_ops.specs.declared.ops.Op.TheVariants.{DropNode}
use Rattle.object_ops.specs.declared.grants.Grant.{Grant}
use Rattle.object_ops.specs.declared.grants.Step.{Step}
use Rattle.chunk_owner.specs.Acts.{touched, HasFresh, IsStepOf, IsTouchedIn}
use Rattle.register.specs.Tickets.{AreEach, Issue}
use Rattle.register.specs.declared.tickets.Turn.{Turn}
use Rattle.register.specs.declared.verdicts.Verdict.{Verdict}
use Rattle.register.specs.declared.verdicts.Verdict.TheVariants.{Granted}
use Rattle.service_core.specs.Steps.{step_taken}
use Rattle.object_acts.specs.Objects.{Objects}
use Rattle.object_ops.specs.Replies.{was_done}

-- the step is one of the request's, its object is of the lane, and what it makes has an id without an object
pub record IsReady (lanes lane : ℕ) (g : Grant) (op : Op) (s : Step) (m : Objects) : Type 0 where
  pub step : IsStepOf op s
  pub touches : IsTouchedIn lane lanes (touched g op s)
  pub fresh : HasFresh g op m

abbrev pub IsReadyAt : ℕ → ℕ → Grant → Op → Option Step → Objects → Type 0
IsReadyAt lanes lane g op None m = Unit {0}
IsReadyAt lanes lane g op (Some step) m = IsReady lanes lane g op step m

-- each turn can be taken once those before it are done
abbrev pub AreReady : ℕ → Grant → Op → Objects → List Turn → Type 0
AreReady lanes g op m [] = Unit {0}
AreReady lanes g op m (t ∷ ts) =
    (t.lane < lanes) × IsReadyAt lanes t.lane g op t.step m × (was_done (step_taken g op t.step m).0 ≡ true → AreReady lanes g op (step_taken g op t.step m).1 ts)

-- the removal of a domain has a turn in each lane
abbrev pub AreServable : ℕ → Op → Issue → Objects → Type 0
AreServable lanes DropNode issue m = AreEach lanes 0 issue.left
AreServable lanes op issue m = (issue.grant.root.kind ≡ Group) × AreReady lanes issue.grant op m issue.left

abbrev pub IsServable : ℕ → Op → Verdict → Objects → Type 0
IsServable lanes op (Granted issue) m = AreServable lanes op issue m
IsServable lanes op verdict m = Unit {0}
