-- What an `ask` answers.
--     asked_by caller request    as a history has it
--     IsServing ..               an entry was decided behind some items, and its tickets are in hand
--     IsServed ..                all its tickets were passed, and this is what it is answered
--     HasAnswered ..             one entry more is the pass's own, and the answer is its place's reply
--     IsDeniedWhere ..           it is denied exactly where the list in force doesn't give the right
--     IsWantingWhere ..          memory was wanting exactly where it was for the verdict or a turn
--     HasGoneThrough ..          each turn went through the caller's gate
use Rattle.std.specs.Prelude.{◌≡◌, ◌↔◌, ◌⊎◌, ℕ, List, [], ◌∷◌}
use Rattle.access_lists.specs.declared.people.Caller.{Caller}
use Rattle.access_lists.specs.declared.right.Right.{Right}
use Rattle.chunk_owner.specs.Lanes.{Lane}
use Rattle.object_ops.specs.Needs.{right_for}
use Rattle.object_ops.specs.declared.grants.Grant.{Grant}
use Rattle.object_ops.specs.declared.ops.Op.{Op}
use Rattle.object_ops.specs.declared.ops.Request.{Request}
use Rattle.object_ops.specs.declared.replies.Reply.{Reply}
use Rattle.register.specs.Decided.{RegisterState}
use Rattle.register.specs.Grants.{turns_of}
use Rattle.register.specs.Laws.{IsDenied}
use Rattle.register.specs.Tickets.{Issue}
use Rattle.register.specs.declared.tickets.Turn.{Turn}
use Rattle.register.specs.declared.verdicts.Verdict.{Verdict}
use Rattle.register.specs.declared.verdicts.Verdict.TheVariants as verdict
use Rattle.service_core.specs.declared.answers.Answer.{Answer}
use Rattle.service_core.specs.declared.answers.What.{What}
use Rattle.service_core.specs.declared.answers.What.TheVariants as what
use Rattle.lane_histories.specs.Histories.{IsIn, register_after, register_at}
use Rattle.lane_histories.specs.Legal.{IsLegalRegister}
use Rattle.lane_histories.specs.Replies.{What as LaneWhat}
use Rattle.lane_histories.specs.declared.items.Entry.{Entry}
use Rattle.lane_histories.specs.declared.items.LaneItem.TheVariants.{Passed}
use Rattle.lane_histories.specs.declared.items.Outcome.TheVariants.{Short}
use Rattle.lane_histories.specs.declared.items.Part.{Part}
use Rattle.lane_histories.specs.declared.items.RegisterItem.{RegisterItem}
use Rattle.lane_histories.specs.declared.items.RegisterItem.TheVariants.{Entered}
use Rattle.hall_rule.specs.Asks.{HasAsked, HasServed, MayServe}
use Rattle.hall_rule.specs.Rule.{HallView}
use Rattle.hall_rule.specs.Seen.{SeenLists, lane_of}
use Rattle.hall_rule.specs.declared.view.Start.{Start}
use Rattle.service_histories.specs.ArrayServices.{Asked, MayDecide, array_service}
use Rattle.service_histories.specs.PlainSteps.{answer_of}
use Rattle.service_histories.specs.declared.tasks.Task.{Task}
use Rattle.hall.specs.ArrayMachines.{lanes_in, machines}

-- with what a hall began, whose desk it knows by a K; the lists of a history, whatever its lanes; and what a pass
-- knows
abbrev pub ArrayStart : Type 0 → Type 0
ArrayStart K = Start RegisterState Lane K

abbrev pub ArrayLists : Type 0
ArrayLists = SeenLists (array_service 0) Lane

abbrev pub ArrayView : Type 0 → Type 0
ArrayView K = HallView (array_service 0) RegisterState Lane K

abbrev pub asked_by : Caller → Request → Asked
asked_by caller request =
    (record { marker = record {}; value = caller }, record { marker = record {}; value = request })

-- the pass has the tickets of this entry in hand, which was decided behind these items
pub record IsServing {D : Type 0} (start : ArrayStart D) (before : List (RegisterItem Asked Verdict))
    (e : Entry Asked Verdict) (v : ArrayView D) : Type 0 where
  pub may : MayServe (machines (lanes_in start)) start before e v
  pub decided : MayDecide
      (register_after (array_service (lanes_in start)) start.register before) e.asked e.verdict
  pub legal : IsLegalRegister (array_service (lanes_in start)) start.register 0 0 before

-- and it is of this operation and place, with this verdict
pub record IsServingVerdict {D : Type 0} (start : ArrayStart D)
    (before : List (RegisterItem Asked Verdict)) (e : Entry Asked Verdict) (place : ℕ) (op : Op)
    (v : Verdict) (w : ArrayView D) : Type 0 where
  pub serving : IsServing start before e w
  pub place_is : e.place ≡ place
  pub op_is : e.asked.1.value.op ≡ op
  pub verdict_is : e.verdict ≡ v

-- or was granted with these turns
pub record IsServingJob {D : Type 0} (start : ArrayStart D)
    (before : List (RegisterItem Asked Verdict)) (e : Entry Asked Verdict) (place : ℕ) (op : Op)
    (grant : Grant) (issue : Issue) (w : ArrayView D) : Type 0 where
  pub serving : IsServingVerdict start before e place op (verdict.Granted issue) w
  pub grant_is : issue.grant ≡ grant

-- every ticket was passed, and this is what the entry is answered
pub record IsServed {D : Type 0} (start : ArrayStart D) (e : Entry Asked Verdict) (answer : What)
    (v w : ArrayView D) : Type 0 where
  pub what_is : LaneWhat Verdict Reply
  pub served : HasServed (machines (lanes_in start)) start e what_is v w
  pub told : answer ≡ answer_of what_is

-- The lists seen before are beginnings of those seen now, which are legal; the pass's own entries
-- have grown by exactly this one, which stands at the answer's place; and what is answered is the
-- reply of that place.
pub record HasAnswered {D : Type 0} (start : ArrayStart D) (caller : Caller) (request : Request)
    (answer : Answer) (v w : ArrayView D) : Type 0 where
  pub decided_as : Verdict
  pub what_is : LaneWhat Verdict Reply
  pub asked : HasAsked (machines (lanes_in start)) start answer.place (asked_by caller request)
      decided_as what_is v w
  pub told : answer.what ≡ answer_of what_is

-- the register at a place, by the lists that a pass has seen
abbrev pub register_then : {D : Type 0} → ArrayStart D → ArrayView D → ℕ → RegisterState
register_then start v place =
    register_at (array_service (lanes_in start)) place start.register v.seen.register

-- a folder or domain of the wanted class stands there, and its list doesn't give the right
abbrev pub IsDeniedWhere : {D : Type 0} → ArrayStart D → ArrayView D → Caller → Request → Answer
    → Type 0
IsDeniedWhere start v caller request answer =
    (right : Right) → (answer.what ≡ what.Denied right)
    ↔ ((right ≡ right_for request.op)
    × IsDenied (register_then start v answer.place) caller request)

-- ---- want of memory

-- the entry of the place has this verdict
abbrev pub HasVerdict : {D : Type 0} → ArrayView D → ℕ → Verdict → Type 0
HasVerdict v place told = (e : Entry Asked Verdict) × IsIn v.seen.register (Entered e)
    × (e.place ≡ place) × (e.verdict ≡ told)

-- one of the place's turns found no memory
abbrev pub HasShortTurn : {D : Type 0} → ArrayView D → ℕ → Type 0
HasShortTurn v place = (lane : ℕ) × (part : Part) × (task : Task)
    × IsIn (lane_of v.seen.lanes lane) (Passed place part task Short)

abbrev pub IsWantingWhere : {D : Type 0} → ArrayView D → Answer → Type 0
IsWantingWhere v answer = (answer.what ≡ what.NoMemory)
    ↔ (HasVerdict v answer.place verdict.NoMemory ⊎ HasShortTurn v answer.place)

-- ---- the gate

-- one after another, in this order, with the lane of each turn and the place
abbrev pub GoesThrough : {G : Type 0} → (G → ℕ → ℕ → G → Type 0) → ℕ → List Turn → G → G → Type 0
GoesThrough goes place [] old new = new ≡ old
GoesThrough {G} goes place (t ∷ ts) old new =
    (mid : G) × goes old t.lane place mid × GoesThrough goes place ts mid new

-- the turns that the place's verdict gave
pub record HasGoneThrough {D G : Type 0} (goes : G → ℕ → ℕ → G → Type 0) (v : ArrayView D)
    (place : ℕ) (old new : G) : Type 0 where
  pub decided_as : Verdict
  pub verdict_is : HasVerdict v place decided_as
  pub gates : GoesThrough goes place (turns_of decided_as) old new
