use Rattle.lane_tests.proofs.OfExamples.CutRuns.{late_runs, opened_is}
use Rattle.lane_tests.specs.Examples.Cuts.{after_late, cut_late, opened, start}
use Rattle.std.proofs.Common.{true}
use Rattle.lane_tests.proofs.examples.cuts.part_before_the_cut_is_kept.Goals as goal

pub returns-clause-run : goal.returns-clause-run
returns-clause-run c = late_runs true

pub returns-clause-kept : goal.returns-clause-kept
returns-clause-kept c = c.events_keep.ensures.images 2 start opened (after_late true) (cut_late true) opened_is (late_runs true)
