use Rattle.lane_tests.proofs.OfExamples.RefutedLemmas.{not_granted}
use Rattle.lane_tests.proofs.examples.refuted.older_lists_decide_nothing.Goals as goal

pub returns : goal.returns
returns c = λ before h e f note legal here asked there after granted.
    not_granted before.register h.register e f note legal.register here asked after (c.verdicts_are_of_their_places.ensures.verdict 2 before h f legal there).1 granted
