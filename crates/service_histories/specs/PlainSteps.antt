-- The plain replay of the service, as the steps of one world.
--     IsSeen lanes w v          each object of a world stands in the lane of its id
--     answer_of what            what a place was answered, as a world answers it
--     EntriesAreSteps           one entry is one step
--     ReplaysAreSteps           and a register's list is the steps of its requests, in order of places
--     HistoriesAreReplays       so a history in which all was done is the replay of one world
--     AllDoneExactly            which is one that found memory wherever it was wanted
use Rattle.std.specs.Prelude.{◌≡◌, ◌≢◌, ◌↔◌, ℕ, ◌<◌, List, [], ◌∷◌, length, map, option_map, slice_get}
use Rattle.std.specs.FinMap.{get}
use Rattle.std.specs.List.{AllByRecursion}
use Rattle.access_lists.specs.declared.people.Caller.{Caller}
use Rattle.object_ids.specs.IdValues.{Id}
use Rattle.object_ids.specs.Ids.{lane_of}
use Rattle.object_ops.specs.Replies.{nothing}
use Rattle.object_ops.specs.declared.ops.Request.{Request}
use Rattle.object_ops.specs.declared.replies.Reply.{Reply}
use Rattle.object_ops.specs.declared.replies.Reply.TheVariants as reply
use Rattle.register.specs.declared.verdicts.Verdict.{Verdict}
use Rattle.register.specs.declared.verdicts.Verdict.TheVariants as verdict
use Rattle.service_core.specs.Steps.{IsAnswered, replay}
use Rattle.service_core.specs.Steps.{World as OneWorld}
use Rattle.service_core.specs.declared.answers.What.{What}
use Rattle.service_core.specs.declared.answers.What.TheVariants as what
use Rattle.lane_histories.specs.declared.items.Entry.{Entry}
use Rattle.lane_histories.specs.declared.items.RegisterItem.{RegisterItem}
use Rattle.lane_histories.specs.declared.items.RegisterItem.TheVariants.{Entered, DrawnCut, RegisterCut}
use Rattle.lane_histories.specs.Histories.{History, IsIn, issued, objects_after, places, register_after, tickets}
use Rattle.lane_histories.specs.Laws.{IsWhole}
use Rattle.lane_histories.specs.Legal.{IsLegal, IsLegalRegister}
use Rattle.lane_histories.specs.PlainReplays.{plain_answers, plain_step, plainly, turns_reply}
use Rattle.lane_histories.specs.Replies.{by_register, by_turn, no_memory}
use Rattle.lane_histories.specs.Replies.{reply as reply_at}
use Rattle.lane_histories.specs.Replies.{What as LaneWhat}
use Rattle.lane_histories.specs.Services.{World}
use Rattle.lane_histories.specs.Shorts.{IsShortAt}
use Rattle.service_histories.specs.ArrayServices.{Asked, MayDecide, array_service, turns_of}

-- ---- one world

pub record IsSeen (lanes : ℕ) (w : World (array_service lanes)) (v : OneWorld) : Type 0 where
  pub register : v.register ≡ w.register
  pub objects : (id : Id) → get v.objects id ≡ get (w.objects (lane_of lanes id)) id

-- the same but for the places and the tickets that were given, and for what is to be written
pub record IsSeenAlike (lanes : ℕ) (w : World (array_service lanes)) (v : OneWorld) : Type 0 where
  pub catalogue : v.register.catalogue ≡ w.register.catalogue
  pub run : v.register.run ≡ w.register.run
  pub serial : v.register.serial ≡ w.register.serial
  pub objects : (id : Id) → get v.objects id ≡ get (w.objects (lane_of lanes id)) id

-- the register is that of so many lanes
pub record IsOverLanes (lanes : ℕ) (w : World (array_service lanes)) : Type 0 where
  pub some : 0 < lanes
  pub count : length w.register.issued ≡ lanes

-- ---- answers

-- a domain whose objects are dropped was removed
abbrev pub of_verdict : Verdict → What
of_verdict (verdict.Granted issue) = what.Replied (reply.Done 200 nothing)
of_verdict (verdict.Answered answer) = what.Replied answer
of_verdict (verdict.Denied right) = what.Denied right
of_verdict (verdict.Refused refusal) = what.Replied (reply.Refused refusal)
of_verdict verdict.NoMemory = what.NoMemory

abbrev pub answer_of : LaneWhat Verdict Reply → What
answer_of (by_register v) = of_verdict v
answer_of (by_turn r) = what.Replied r
answer_of no_memory = what.NoMemory

-- ---- one request

-- it is answered, and leaves a world that is seen in the lanes
pub record IsStep (lanes : ℕ) (w : World (array_service lanes)) (v : OneWorld) (e : Entry Asked Verdict) : Type 0 where
  pub new : OneWorld
  pub seen : IsSeen lanes (plain_step (array_service lanes) w (Entered e)) new
  pub answered : IsAnswered v e.asked.0.value e.asked.1.value
      (answer_of (turns_reply (array_service lanes) e.verdict (turns_of e.asked e.verdict) w.objects)) new

abbrev pub EntriesAreSteps : ℕ → Type 0
EntriesAreSteps lanes =
    (w : World (array_service lanes)) (v : OneWorld) (e : Entry Asked Verdict)
    → IsOverLanes lanes w → IsSeen lanes w v → MayDecide w.register e.asked e.verdict → IsStep lanes w v e

-- ---- many

-- the requests, in order of places
abbrev pub asked_in : List (RegisterItem Asked Verdict) → List (Caller × Request)
asked_in [] = []
asked_in (Entered e ∷ items) = (e.asked.0.value, e.asked.1.value) ∷ asked_in items
asked_in (DrawnCut number c ∷ items) = asked_in items
asked_in (RegisterCut p found ∷ items) = asked_in items

-- it wasn't decided for want of memory
abbrev pub IsDecided : RegisterItem Asked Verdict → Type 0
IsDecided (Entered e) = e.verdict ≢ verdict.NoMemory
IsDecided (DrawnCut number c) = Unit {0}
IsDecided (RegisterCut p found) = Unit {0}

pub record AreSteps (lanes : ℕ) (w : World (array_service lanes)) (v : OneWorld) (items : List (RegisterItem Asked Verdict)) : Type 0 where
  pub answers : map answer_of (plain_answers (array_service lanes) items w) ≡ (replay v (asked_in items)).0
  pub world : IsSeenAlike lanes (plainly (array_service lanes) items w) (replay v (asked_in items)).1

abbrev pub ReplaysAreSteps : ℕ → Type 0
ReplaysAreSteps lanes =
    (w : World (array_service lanes)) (v : OneWorld) (places cuts : ℕ) (items : List (RegisterItem Asked Verdict))
    → IsOverLanes lanes w → IsSeenAlike lanes w v → IsLegalRegister (array_service lanes) w.register places cuts items
    → AllByRecursion IsDecided items → AreSteps lanes w v items

-- ---- histories

-- the register and the objects of each lane, after all items of their lists
abbrev pub world_after : (lanes : ℕ) → World (array_service lanes) → History (array_service lanes) → World (array_service lanes)
world_after lanes start h = record {
  register = register_after (array_service lanes) start.register h.register;
  objects = λ l. objects_after (array_service lanes) (start.objects l) (h.lane l);
}

-- all was done and no memory was wanting
pub record IsAllDone (lanes : ℕ) (start : World (array_service lanes)) (h : History (array_service lanes)) : Type 0 where
  pub legal : IsLegal (array_service lanes) start h
  pub whole : IsWhole (array_service lanes) h
  pub decided : AllByRecursion IsDecided h.register

-- each place was answered as one world answers the requests in order of places, and so are the register and the objects of each lane
pub record IsAsOneWorld (lanes : ℕ) (start : World (array_service lanes)) (h : History (array_service lanes)) (v : OneWorld) : Type 0 where
  pub answers : (place : ℕ) → place < places h.register
      → option_map answer_of (reply_at (array_service lanes) h place) ≡ slice_get (replay v (asked_in h.register)).0 place
  pub world : IsSeenAlike lanes (world_after lanes start h) (replay v (asked_in h.register)).1

abbrev pub HistoriesAreReplays : ℕ → Type 0
HistoriesAreReplays lanes =
    (start : World (array_service lanes)) (h : History (array_service lanes)) (v : OneWorld)
    → IsOverLanes lanes start → IsSeenAlike lanes start v → IsAllDone lanes start h → IsAsOneWorld lanes start h v

-- each ticket was passed, no turn found no memory, and no verdict is that memory was wanting
pub record WantsNothing (lanes : ℕ) (h : History (array_service lanes)) : Type 0 where
  pub passed : (l : ℕ) → tickets (h.lane l) ≡ issued (array_service lanes) l h.register
  pub turns : (place : ℕ) → IsShortAt h place → ⊥
  pub verdicts : (e : Entry Asked Verdict) → IsIn h.register (Entered e) → e.verdict ≢ verdict.NoMemory

abbrev pub AllDoneExactly : ℕ → Type 0
AllDoneExactly lanes =
    (start : World (array_service lanes)) (h : History (array_service lanes))
    → IsAllDone lanes start h ↔ (IsLegal (array_service lanes) start h × WantsNothing lanes h)
