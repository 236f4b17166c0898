use Rattle.lane_tests.proofs.OfExamples.TearRuns.{torn_idle, torn_runs, torn_unkept}
use Rattle.lane_tests.proofs.examples.tears.torn_lane_is_kept_in_no_way.Goals as goal

pub returns-clause-run : goal.returns-clause-run
returns-clause-run c = torn_runs

pub returns-clause-idle : goal.returns-clause-idle
returns-clause-idle c = torn_idle

pub returns-clause-unkept : goal.returns-clause-unkept
returns-clause-unkept c = torn_unkept
