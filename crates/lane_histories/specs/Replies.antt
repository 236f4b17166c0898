-- What a request is answered.
--     What                 by the register, by a turn, or that memory was wanting
--     reply s h place      what the request of a place is answered
--     answers s items st   what the replay answers, in order of places
use Rattle.std.specs.Prelude.{ℕ, Bool, true, false, List, [], ◌∷◌, take, Option, Some, None, if◌then◌else◌, ◌==◌}
use Rattle.lane_histories.specs.Services.{Service, Turns, no_turn, one_turn, two_turns, each_lane}
use Rattle.lane_histories.specs.Histories.{Entry, RegisterItem, Entered, DrawnCut, RegisterCut, Part, Only, First, Second, Outcome, Done, Short, Skipped, LaneItem, Passed, WasCut, LaneList, RegisterList, History}
use Rattle.lane_histories.specs.Replays.{Stage, decided_stage, stage_step, turn_taken}

-- ---- by the lists

-- by the register; by the one turn, or the last that was reached; or memory was wanting
pub data What (V R : Type 0) : Type 0 where
  by_register : V → What V R
  by_turn : R → What V R
  no_memory : What V R

-- the entry of a place, and the outcome of a part of it
abbrev pub entry_at : {Q V : Type 0} → ℕ → List (RegisterItem Q V) → Option (Entry Q V)
entry_at place [] = None
entry_at place (Entered e ∷ items) = if e.place == place then Some e else entry_at place items
entry_at place (DrawnCut number c ∷ items) = entry_at place items
entry_at place (RegisterCut p found ∷ items) = entry_at place items

abbrev pub is_same_part : Part → Part → Bool
is_same_part Only Only = true
is_same_part Only First = false
is_same_part Only (Second a) = false
is_same_part First Only = false
is_same_part First First = true
is_same_part First (Second a) = false
is_same_part (Second a) Only = false
is_same_part (Second a) First = false
is_same_part (Second a) (Second b) = a == b

abbrev pub outcome_of : {T R : Type 0} → ℕ → Part → List (LaneItem T R) → Option (Outcome R)
outcome_of place part [] = None
outcome_of place part (Passed other there task y ∷ items) =
    if other == place then (if is_same_part there part then Some y else outcome_of place part items) else outcome_of place part items
outcome_of place part (WasCut number c found ∷ items) = outcome_of place part items

abbrev pub what_of : {V R : Type 0} → Outcome R → What V R
what_of (Done reply) = by_turn reply
what_of Short = no_memory
what_of Skipped = no_memory

abbrev pub one_what : {V R : Type 0} → Option (Outcome R) → Option (What V R)
one_what None = None
one_what (Some y) = Some (what_of y)

-- a second that was skipped leaves the answer to the first
abbrev pub two_what : {V R : Type 0} → Outcome R → Option (Outcome R) → Option (What V R)
two_what x None = None
two_what x (Some Skipped) = Some (what_of x)
two_what x (Some (Done reply)) = Some (by_turn reply)
two_what x (Some Short) = Some no_memory

abbrev pub pair_what : {V R : Type 0} → Option (Outcome R) → Option (Outcome R) → Option (What V R)
pair_what None y = None
pair_what (Some x) y = two_what x y

abbrev pub turns_what : (s : Service) → (ℕ → LaneList s) → Entry s.Asked s.Verdict → Turns s.Task → Option (What s.Verdict s.Reply)
turns_what s lane e no_turn = Some (by_register e.verdict)
turns_what s lane e (one_turn l task) = one_what (outcome_of e.place Only (lane l))
turns_what s lane e (two_turns a task b next) =
    pair_what (outcome_of e.place First (lane a)) (outcome_of e.place (Second a) (lane b))
turns_what s lane e (each_lane task) = Some (by_register e.verdict)

abbrev pub entry_what : (s : Service) → (ℕ → LaneList s) → Option (Entry s.Asked s.Verdict) → Option (What s.Verdict s.Reply)
entry_what s lane None = None
entry_what s lane (Some e) = turns_what s lane e (s.turns e.asked e.verdict)

abbrev pub reply : (s : Service) → History s → ℕ → Option (What s.Verdict s.Reply)
reply s h place = entry_what s h.lane (entry_at place h.register)

-- ---- by the replay

abbrev pub next_outcome : {T R : Type 0} → ℕ → Part → List (LaneItem T R) → Option (Outcome R)
next_outcome place part rest = outcome_of place part (take 1 rest)

-- what a request is answered by the turns that it takes at that moment
abbrev pub stage_what : (s : Service) → Stage s → Entry s.Asked s.Verdict → Turns s.Task → Option (What s.Verdict s.Reply)
stage_what s st e no_turn = Some (by_register e.verdict)
stage_what s st e (one_turn l task) = one_what (next_outcome e.place Only (st.rest l))
stage_what s st e (two_turns a task b next) =
    pair_what (next_outcome e.place First (st.rest a)) (next_outcome e.place (Second a) ((turn_taken s st a).rest b))
stage_what s st e (each_lane task) = Some (by_register e.verdict)

-- the answers in order of places
abbrev pub answers : (s : Service) → RegisterList s → Stage s → List (Option (What s.Verdict s.Reply))
answers s [] st = []
answers s (Entered e ∷ items) st =
    stage_what s (decided_stage s st e) e (s.turns e.asked e.verdict) ∷ answers s items (stage_step s st (Entered e))
answers s (DrawnCut number c ∷ items) st = answers s items (stage_step s st (DrawnCut number c))
answers s (RegisterCut p found ∷ items) st = answers s items (stage_step s st (RegisterCut p found))
