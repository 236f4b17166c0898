use Rattle.lane_tests.proofs.OfExamples.WaitLemmas.{no_second_yet, no_turn_yet}
use Rattle.lane_tests.proofs.examples.waiting.no_turn_comes_too_early.Goals as goal

pub returns-clause-cut : goal.returns-clause-cut
returns-clause-cut c = no_turn_yet

pub returns-clause-second : goal.returns-clause-second
returns-clause-second c = no_second_yet
