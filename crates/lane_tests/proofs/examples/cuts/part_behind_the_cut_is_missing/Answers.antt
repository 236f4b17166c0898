use Rattle.lane_tests.proofs.OfExamples.CutRuns.{early_runs, opened_is}
use Rattle.lane_tests.specs.Examples.Cuts.{after_early, cut_early, opened, start}
use Rattle.lane_tests.proofs.examples.cuts.part_behind_the_cut_is_missing.Goals as goal

pub returns-clause-run : goal.returns-clause-run
returns-clause-run c = early_runs

pub returns-clause-kept : goal.returns-clause-kept
returns-clause-kept c = c.events_keep.ensures.images 2 start opened after_early cut_early opened_is early_runs
