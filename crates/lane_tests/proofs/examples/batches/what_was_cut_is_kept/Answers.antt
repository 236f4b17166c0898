use Rattle.std.proofs.Common.{inr, refl}
use Rattle.lane_histories.specs.Core.{history}
use Rattle.lane_tests.proofs.OfExamples.CutRuns.{early_runs, early_told, early_whole, later_goes_on, opened_is}
use Rattle.lane_tests.specs.Examples.Cuts.{after_early, cut_early, opened, start, to_its_cut, written_later}
use Rattle.lane_tests.proofs.examples.batches.what_was_cut_is_kept.Goals as goal

pub returns-clause-told : goal.returns-clause-told
returns-clause-told c = early_told

pub returns-clause-stays : goal.returns-clause-stays
returns-clause-stays c =
    let legal = c.events_keep.ensures.legal 2 start opened after_early cut_early opened_is early_runs in
    c.cut_pairs_are_kept.ensures.stay 2 start (history after_early) (history written_later) after_early.desk.built legal later_goes_on early_told

pub returns-clause-kept : goal.returns-clause-kept
returns-clause-kept c =
    let legal = c.events_keep.ensures.legal 2 start opened after_early cut_early opened_is early_runs in
    c.cut_pairs_are_kept.ensures.kept 2 start (history after_early) after_early.desk.built to_its_cut legal early_told (inr (0, early_whole)) refl
