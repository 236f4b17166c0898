-- A cut that found no memory in one lane, and left what was cut as it was; and then a keeping of the register alone.
use Rattle.std.specs.Prelude.{true, false, List, [], ◌∷◌}
use Rattle.lane_histories.specs.declared.items.RegisterItem.TheVariants.{DrawnCut}
use Rattle.lane_histories.specs.declared.items.LaneItem.TheVariants.{WasCut}
use Rattle.lane_histories.specs.declared.items.Outcome.TheVariants.{Done}
use Rattle.lane_histories.specs.Core.{Event, appends, asks, cuts_lane, cuts_register, draws_cut, takes_turn, with_built, with_item, with_lane}
use Rattle.lane_tests.specs.declared.examples.requests.Request.TheVariants.{Revokes, Writes}
use Rattle.lane_tests.specs.declared.examples.requests.Verdict.TheVariants.{Answered, Granted}
use Rattle.lane_tests.specs.Examples.Cuts.{Notes, asked, batch_appended, lane_cut, opened, register_cut_at}
use Rattle.lane_tests.specs.Examples.Notes.{notes}
use Rattle.lane_tests.specs.Examples.Tears.{wrote}

-- of the lane 0 nothing was cut
abbrev pub none_cut : Notes → Notes
none_cut core = with_built (with_lane core 0 (WasCut 0 2 false) (core.objects 0) false) core.desk.built

abbrev pub short_events : List (Event notes)
short_events =
    asks 0 (Writes 5) (Granted 5) ∷ asks 0 Revokes Answered ∷ takes_turn 0 (Done 0) ∷ draws_cut
    ∷ cuts_lane 0 false ∷ cuts_lane 1 true ∷ cuts_register true ∷ appends true 0 0 0 ∷ []

abbrev pub drawn_behind : Notes
drawn_behind = with_item (wrote 0 5 (asked Revokes Answered false (asked (Writes 5) (Granted 5) true opened))) (DrawnCut 0 2) false

abbrev pub after_short : Notes
after_short = batch_appended true 0 2 (register_cut_at 2 (lane_cut 1 2 (none_cut drawn_behind)))
