use Rattle.lane_tests.proofs.OfExamples.RefutedLemmas.{not_ahead, not_newer, not_older}
use Rattle.lane_tests.proofs.examples.refuted.worlds_are_kept_under_one_list.Goals as goal

pub returns-clause-older : goal.returns-clause-older
returns-clause-older c = not_older

pub returns-clause-newer : goal.returns-clause-newer
returns-clause-newer c = not_newer

pub returns-clause-order : goal.returns-clause-order
returns-clause-order c = not_ahead
