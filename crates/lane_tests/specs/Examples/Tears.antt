-- A cut that found no memory half way: what was cut of the lane tells it as it never was.
use Rattle.std.specs.Prelude.{ℕ, true, false, List, [], ◌∷◌, length}
use Rattle.lane_histories.specs.Histories.{changed_at}
use Rattle.lane_histories.specs.declared.items.RegisterItem.TheVariants.{DrawnCut}
use Rattle.lane_histories.specs.declared.items.LaneItem.TheVariants.{Passed, WasCut}
use Rattle.lane_histories.specs.declared.items.Outcome.TheVariants.{Done}
use Rattle.lane_histories.specs.declared.items.Part.TheVariants.{Only}
use Rattle.lane_histories.specs.Core.{Event, asks, cuts_lane, cuts_register, draws_cut, takes_turn, with_built, with_item, with_lane}
use Rattle.lane_tests.specs.declared.examples.requests.Request.TheVariants.{Writes}
use Rattle.lane_tests.specs.declared.examples.requests.Verdict.TheVariants.{Granted}
use Rattle.lane_tests.specs.Examples.Cuts.{Notes, asked, lane_cut, opened, register_cut_at}
use Rattle.lane_tests.specs.Examples.Notes.{notes}

-- a note is written in the lane 0
abbrev pub wrote : ℕ → ℕ → Notes → Notes
wrote place note core = with_lane core 0 (Passed place Only note (Done (length (core.objects 0)))) (note ∷ core.objects 0) false

-- of the lane 0 only the last note was cut
abbrev pub half_cut : Notes → Notes
half_cut core =
    with_built (with_lane core 0 (WasCut 0 2 false) (core.objects 0) true)
    (record core.desk.built { written = changed_at 0 (6 ∷ []) core.desk.built.written })

abbrev pub torn_events : List (Event notes)
torn_events =
    asks 0 (Writes 5) (Granted 5) ∷ asks 0 (Writes 6) (Granted 6) ∷ takes_turn 0 (Done 0) ∷ takes_turn 0 (Done 1)
    ∷ draws_cut ∷ cuts_lane 0 false ∷ cuts_lane 1 true ∷ cuts_register true ∷ []

abbrev pub both_written : Notes
both_written = wrote 1 6 (wrote 0 5 (asked (Writes 6) (Granted 6) true (asked (Writes 5) (Granted 5) true opened)))

abbrev pub torn_core : Notes
torn_core = register_cut_at 2 (lane_cut 1 2 (half_cut (with_item both_written (DrawnCut 0 2) true)))
