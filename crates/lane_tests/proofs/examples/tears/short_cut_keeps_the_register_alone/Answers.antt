use Rattle.lane_tests.proofs.OfExamples.CutRuns.{opened_is}
use Rattle.lane_tests.proofs.OfExamples.TearRuns.{short_runs}
use Rattle.lane_tests.specs.Examples.Cuts.{opened, start}
use Rattle.lane_tests.specs.Examples.ShortCuts.{after_short, short_events}
use Rattle.lane_tests.proofs.examples.tears.short_cut_keeps_the_register_alone.Goals as goal

pub returns-clause-run : goal.returns-clause-run
returns-clause-run c = short_runs

pub returns-clause-kept : goal.returns-clause-kept
returns-clause-kept c = c.events_keep.ensures.images 2 start opened after_short short_events opened_is short_runs
