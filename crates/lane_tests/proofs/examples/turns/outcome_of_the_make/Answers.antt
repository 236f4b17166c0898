use Rattle.std.proofs.Common.{ap, not, refl, sym}
use Rattle.lane_tests.proofs.OfExamples.MadeLemmas.{made_legal}
use Rattle.lane_tests.proofs.examples.turns.outcome_of_the_make.Goals as goal

pub returns-then-linked : goal.returns-then-linked
returns-then-linked c = made_legal c.args.linked _ (ap not (sym c.if-linked.true)) refl

pub returns-else-linked : goal.returns-else-linked
returns-else-linked c = made_legal c.args.linked _ (ap not (sym c.if-linked.false)) tt
