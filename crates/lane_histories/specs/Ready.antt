-- When the objects of a lane are as a turn needs them.
--     Readiness          what the register gave out, and what a task needs
--     GivesOut s r       what was given out stays so, and a request's turns need no more than it
--     TurnsAreReady s r  in a legal history the next turn of a lane finds its objects as it needs them
--     KeptIsGiven s r    and what is kept of it was given out
use Rattle.std.specs.Prelude.{ℕ, Bool, take}
use Rattle.std.specs.List.{AllByRecursion}
use Rattle.lane_histories.specs.Services.{Service, Turns, World, no_turn, one_turn, two_turns, each_lane}
use Rattle.lane_histories.specs.Histories.{History, Part, part_of, objects_after, register_at}
use Rattle.lane_histories.specs.Kept.{IsBelow}
use Rattle.lane_histories.specs.Legal.{IsLegal, IsNext}

-- whatever holds before, the task finds what it needs; and something holds of what it leaves
abbrev pub FindsAll : (s : Service) → (s.Task → s.Objects → Type 0) → (s.Objects → Type 0) → (s.Objects → Type 0) → s.Task → Type 0
FindsAll s Needs Before After task = (o : s.Objects) → Before o → Needs task o × After (s.acted task o).1

-- of two turns the first, too, leaves what held before
abbrev pub AreReady : (s : Service) → (s.Task → s.Objects → Type 0) → (s.Objects → Type 0) → (s.Objects → Type 0) → Turns s.Task → Type 0
AreReady s Needs Before After no_turn = Unit {0}
AreReady s Needs Before After (one_turn l task) = FindsAll s Needs Before After task
AreReady s Needs Before After (two_turns a task b next) = FindsAll s Needs Before Before task × FindsAll s Needs Before After next
AreReady s Needs Before After (each_lane task) = FindsAll s Needs Before After task

pub record Readiness (s : Service) : Type 1 where
  -- the register gave out what the objects have, such as their ids
  pub Given : s.Register → s.Objects → Type 0
  -- what a task needs of the objects, such as that none has a fresh id
  pub Needs : s.Task → s.Objects → Type 0

pub record GivesOut (s : Service) (r : Readiness s) : Type 0 where
  -- what was given out stays so
  pub decided : (d : s.Register) (asked : s.Asked) (verdict : s.Verdict) (o : s.Objects) → s.MayAnswer d asked verdict → r.Given d o
      → r.Given (s.decided d asked verdict) o
  pub drawn : (d : s.Register) (o : s.Objects) → r.Given d o → r.Given (s.drawn d) o
  pub recorded : (found : Bool) (d : s.Register) (o : s.Objects) → r.Given d o → r.Given (s.recorded found d) o
  -- a request's turns find what they need where only what was given before it is there
  pub ready : (d : s.Register) (asked : s.Asked) (verdict : s.Verdict) → s.MayAnswer d asked verdict
      → AreReady s r.Needs (r.Given d) (r.Given (s.decided d asked verdict)) (s.turns asked verdict)

abbrev pub TurnsAreReady : (s : Service) → Readiness s → Type 0
TurnsAreReady s r =
    GivesOut s r → (start : World s) (h : History s) → IsLegal s start h → ((l : ℕ) → r.Given start.register (start.objects l))
    → (l place : ℕ) (part : Part) (task : s.Task) → IsNext s h l (part_of place part task)
    → r.Needs task (objects_after s (start.objects l) (h.lane l))

-- the objects after some first items of a lane, none of which is of a place of p or above, were given out by the first p requests
abbrev pub KeptIsGiven : (s : Service) → Readiness s → Type 0
KeptIsGiven s r =
    GivesOut s r → (start : World s) (h : History s) → IsLegal s start h → ((l : ℕ) → r.Given start.register (start.objects l))
    → (l k p : ℕ) → AllByRecursion (IsBelow p) (take k (h.lane l))
    → r.Given (register_at s p start.register h.register) (objects_after s (start.objects l) (take k (h.lane l)))
