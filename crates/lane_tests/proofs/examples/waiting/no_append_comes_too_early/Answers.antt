use Rattle.lane_tests.proofs.OfExamples.WaitLemmas.{no_drawn, no_pending, no_settled, no_short, no_torn, short_runs}
use Rattle.lane_tests.proofs.examples.waiting.no_append_comes_too_early.Goals as goal

pub returns-clause-run : goal.returns-clause-run
returns-clause-run c = short_runs

pub returns-clause-short : goal.returns-clause-short
returns-clause-short c = no_short

pub returns-clause-drawn : goal.returns-clause-drawn
returns-clause-drawn c = no_drawn

pub returns-clause-torn : goal.returns-clause-torn
returns-clause-torn c = no_torn

pub returns-clause-pending : goal.returns-clause-pending
returns-clause-pending c = no_pending

pub returns-clause-settled : goal.returns-clause-settled
returns-clause-settled c = no_settled
