-- The replay of one world, in order of places: a request is decided, and its turns are taken at once.
--     Stage                     the world, and the items that each lane has left
--     replayed s items st       the stage after some items of the register's list
--     IsReplay s st .. items    each verdict, ticket and outcome is one that may come at that moment of the replay
use Rattle.std.specs.Prelude.{◌≡◌, ℕ, ◌<◌, Bool, not, [], ◌∷◌, take, drop, if◌then◌else◌, ◌==◌, nat_lt}
use Rattle.lane_histories.specs.Services.{Service, Turns, World, no_turn, one_turn, two_turns, each_lane}
use Rattle.lane_histories.specs.Histories.{Entry, RegisterItem, Entered, DrawnCut, RegisterCut, Only, First, Second, Ticket, part_of, cut_of, Outcome, Passed, LaneList, RegisterList, ticket_of, IsIn, objects_step}
use Rattle.lane_histories.specs.Legal.{IsLegalRegisterItem, IsLegalLaneItem, cuts_on, is_skipped, is_well, places_on}

-- ---- with the outcomes of a history

pub record Stage (s : Service) : Type 0 where
  pub register : s.Register
  pub objects : ℕ → s.Objects
  pub rest : ℕ → LaneList s

-- what a lane's next item leaves; one that isn't there yet leaves all
abbrev pub next_objects : (s : Service) → s.Objects → LaneList s → s.Objects
next_objects s o [] = o
next_objects s o (i ∷ items) = objects_step s o i

-- some lanes take their next turn
abbrev pub taken : (s : Service) → (ℕ → Bool) → Stage s → Stage s
taken s here st = record st {
  objects = λ l. if here l then next_objects s (st.objects l) (st.rest l) else st.objects l;
  rest = λ l. if here l then drop 1 (st.rest l) else st.rest l;
}

abbrev pub turn_taken : (s : Service) → Stage s → ℕ → Stage s
turn_taken s st a = taken s (λ l. a == l) st

abbrev pub all_taken : (s : Service) → Stage s → Stage s
all_taken s st = taken s (λ l. nat_lt l s.lanes) st

abbrev pub turns_taken : (s : Service) → Stage s → Turns s.Task → Stage s
turns_taken s st no_turn = st
turns_taken s st (one_turn l task) = turn_taken s st l
turns_taken s st (two_turns a task b next) = turn_taken s (turn_taken s st a) b
turns_taken s st (each_lane task) = all_taken s st

-- the request is decided
abbrev pub decided_stage : (s : Service) → Stage s → Entry s.Asked s.Verdict → Stage s
decided_stage s st e = record st { register = s.decided st.register e.asked e.verdict }

abbrev pub stage_step : (s : Service) → Stage s → RegisterItem s.Asked s.Verdict → Stage s
stage_step s st (Entered e) = turns_taken s (decided_stage s st e) (s.turns e.asked e.verdict)
stage_step s st (DrawnCut number c) = all_taken s (record st { register = s.drawn st.register })
stage_step s st (RegisterCut p found) = record st { register = s.recorded found st.register }

abbrev pub replayed : (s : Service) → RegisterList s → Stage s → Stage s
replayed s [] st = st
replayed s (i ∷ items) st = replayed s items (stage_step s st i)

abbrev pub staged : {s : Service} → World s → (ℕ → LaneList s) → Stage s
staged start lane = record { register = start.register; objects = start.objects; rest = lane }

-- ---- what may come at a moment of the replay

-- the lane's next item, if it is there, has this ticket, and its outcome may come at the objects as they are
abbrev pub IsNextItem : (s : Service) → s.Objects → Ticket s.Task → LaneList s → Type 0
IsNextItem s o ticket [] = Unit {0}
IsNextItem s o ticket (i ∷ items) = (ticket_of i ≡ ticket) × IsLegalLaneItem s o i

abbrev pub MayTake : (s : Service) → Stage s → ℕ → Ticket s.Task → Type 0
MayTake s st l ticket = IsNextItem s (st.objects l) ticket (st.rest l)

abbrev pub AllMayTake : (s : Service) → Stage s → Ticket s.Task → Type 0
AllMayTake s st ticket = (l : ℕ) → l < s.lanes → MayTake s st l ticket

-- the second is skipped exactly where the first didn't go well
abbrev pub Agree : (s : Service) → ℕ → ℕ → LaneList s → LaneList s → Type 0
Agree s place a one two =
    (task next : s.Task) (x y : Outcome s.Reply) → IsIn one (Passed place First task x) → IsIn two (Passed place (Second a) next y)
    → is_skipped y ≡ not (is_well s x)

abbrev pub MayTakeTurns : (s : Service) → Stage s → ℕ → Turns s.Task → Type 0
MayTakeTurns s st place no_turn = Unit {0}
MayTakeTurns s st place (one_turn l task) = MayTake s st l (part_of place Only task)
MayTakeTurns s st place (two_turns a task b next) =
    MayTake s st a (part_of place First task)
    × MayTake s (turn_taken s st a) b (part_of place (Second a) next)
    × Agree s place a (take 1 (st.rest a)) (take 1 ((turn_taken s st a).rest b))
MayTakeTurns s st place (each_lane task) = AllMayTake s st (part_of place Only task)

abbrev pub MayCome : (s : Service) → Stage s → RegisterItem s.Asked s.Verdict → Type 0
MayCome s st (Entered e) = MayTakeTurns s (decided_stage s st e) e.place (s.turns e.asked e.verdict)
MayCome s st (DrawnCut number c) = AllMayTake s st (cut_of number c)
MayCome s st (RegisterCut p found) = Unit {0}

abbrev pub IsReplay : (s : Service) → Stage s → ℕ → ℕ → RegisterList s → Type 0
IsReplay s st places cuts [] = Unit {0}
IsReplay s st places cuts (i ∷ items) =
    IsLegalRegisterItem s st.register places cuts i × MayCome s st i
    × IsReplay s (stage_step s st i) (places_on places i) (cuts_on cuts i) items
