-- A note that is written at place 7, where the right goes at place 8; and a cut that is drawn at 9 places, or at 7.
use Rattle.std.specs.Prelude.{ℕ, zero, suc, Bool, true, false, List, [], ◌∷◌, ◌++◌, None}
use Rattle.lane_histories.specs.Services.{World}
use Rattle.lane_histories.specs.Histories.{changed_at}
use Rattle.lane_histories.specs.declared.items.RegisterItem.TheVariants.{DrawnCut, RegisterCut}
use Rattle.lane_histories.specs.declared.items.LaneItem.TheVariants.{Passed, WasCut}
use Rattle.lane_histories.specs.declared.items.Outcome.TheVariants.{Done}
use Rattle.lane_histories.specs.declared.items.Part.TheVariants.{Only}
use Rattle.lane_histories.specs.declared.items.Reach.{Reach}
use Rattle.lane_histories.specs.Desks.{nowhere}
use Rattle.lane_histories.specs.Core.{Core, Event, asks, draws_cut, takes_turn, cuts_lane, cuts_register, appends, settles, crashes, entry, with_built, with_desk, with_item, with_lane}
use Rattle.lane_tests.specs.declared.examples.requests.Request.{Request}
use Rattle.lane_tests.specs.declared.examples.requests.Request.TheVariants.{Looks, Writes, Revokes}
use Rattle.lane_tests.specs.declared.examples.requests.Verdict.{Verdict}
use Rattle.lane_tests.specs.declared.examples.requests.Verdict.TheVariants.{Answered, Granted}
use Rattle.lane_tests.specs.Examples.Notes.{Held, contents, notes}

abbrev pub Notes : Type 0
Notes = Core notes contents

abbrev pub start : World notes
start = record { register = true; objects = λ l. [] }

abbrev pub nothing_held : Held
nothing_held = record { right = true; written = λ l. [] }

abbrev pub opened : Notes
opened = record {
  list = [];
  items = λ l. [];
  register = true;
  objects = λ l. [];
  torn = λ l. false;
  desk = record { held = nothing_held; own = nowhere; pending = None; built = nothing_held };
  keepings = [];
  crashed = false;
}

-- ---- what each event leaves

abbrev pub asked : Request → Verdict → Bool → Notes → Notes
asked request verdict right core = with_item core (entry core 0 request verdict) right

abbrev pub written : Notes → Notes
written core = with_lane core 0 (Passed 7 Only 5 (Done 0)) (5 ∷ core.objects 0) false

abbrev pub lane_cut : ℕ → ℕ → Notes → Notes
lane_cut l c core =
    with_built (with_lane core l (WasCut 0 c true) (core.objects l) false)
    (record core.desk.built { written = changed_at l (core.objects l) core.desk.built.written })

abbrev pub register_cut_at : ℕ → Notes → Notes
register_cut_at p core = with_built (with_item core (RegisterCut p true) core.register) (record core.desk.built { right = core.register })

abbrev pub batch_appended : Bool → ℕ → ℕ → Notes → Notes
batch_appended ok c p core = with_desk core ok (core.desk.built, record { c = c; p = p }) 0 0 0 0 0

-- requests before, which take the first places
abbrev pub looks_times : ℕ → List (Event notes)
looks_times zero = []
looks_times (suc n) = asks 0 Looks Answered ∷ looks_times n

abbrev pub looked : Notes → Notes
looked core = asked Looks Answered core.register core

abbrev pub looked_times : ℕ → Notes → Notes
looked_times zero core = core
looked_times (suc n) core = looked_times n (looked core)

abbrev pub after_looks : Notes
after_looks = looked_times 7 opened

-- ---- the cut is drawn at 9 places, before the note's turn: its tickets come behind

abbrev pub late_events : Bool → List (Event notes)
late_events ok =
    asks 0 (Writes 5) (Granted 5) ∷ asks 0 Revokes Answered ∷ draws_cut ∷ takes_turn 0 (Done 0)
    ∷ cuts_lane 0 true ∷ cuts_lane 1 true ∷ cuts_register true ∷ appends ok 0 0 0 ∷ []

abbrev pub cut_late : Bool → List (Event notes)
cut_late ok = looks_times 7 ++ late_events ok

abbrev pub drawn_late : Notes
drawn_late = with_item (asked Revokes Answered false (asked (Writes 5) (Granted 5) true after_looks)) (DrawnCut 0 9) false

abbrev pub built_late : Notes
built_late = register_cut_at 9 (lane_cut 1 9 (lane_cut 0 9 (written drawn_late)))

-- the append is answered Ok, or refused
abbrev pub after_late : Bool → Notes
after_late ok = batch_appended ok 9 9 built_late

-- a batch that was refused is settled; then the disk crashes
abbrev pub settling : List (Event notes)
settling = settles true 0 0 0 ∷ crashes ∷ []

abbrev pub after_settled : Notes
after_settled = record (with_desk (after_late false) true (built_late.desk.built, record { c = 9; p = 9 }) 0 0 0 0 0) { crashed = true }

-- ---- the cut is drawn at 7 places: its tickets come first, and the note's turn waits

abbrev pub early_events : List (Event notes)
early_events =
    draws_cut ∷ asks 0 (Writes 5) (Granted 5) ∷ asks 0 Revokes Answered
    ∷ cuts_lane 0 true ∷ cuts_lane 1 true ∷ cuts_register true ∷ appends true 0 0 0 ∷ []

abbrev pub cut_early : List (Event notes)
cut_early = looks_times 7 ++ early_events

abbrev pub drawn_early : Notes
drawn_early = asked Revokes Answered false (asked (Writes 5) (Granted 5) true (with_item after_looks (DrawnCut 0 7) true))

abbrev pub after_early : Notes
after_early = batch_appended true 7 9 (register_cut_at 9 (lane_cut 1 7 (lane_cut 0 7 drawn_early)))

-- the note's turn comes at last
abbrev pub written_later : Notes
written_later = written after_early

-- ---- how far

abbrev pub to_its_cut : Reach
to_its_cut = record { c = 7; p = 9 }

abbrev pub to_its_append : Reach
to_its_append = record { c = 9; p = 9 }

abbrev pub under_the_old_list : Reach
under_the_old_list = record { c = 7; p = 7 }

abbrev pub ahead_of_its_list : Reach
ahead_of_its_list = record { c = 9; p = 7 }

-- ---- cuts that found no memory, or came in another order

-- the register's cut found none
abbrev pub register_short : Notes
register_short = with_built (with_item opened (RegisterCut 0 false) true) nothing_held

-- the register is cut before the lanes
abbrev pub register_first : Notes
register_first = lane_cut 1 0 (lane_cut 0 0 (with_item (register_cut_at 0 opened) (DrawnCut 0 0) true))
