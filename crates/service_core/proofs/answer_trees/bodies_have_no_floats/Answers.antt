use Rattle.service_core.proofs.AnswerTrees.Floats.{answers_exact}
use Rattle.service_core.proofs.answer_trees.bodies_have_no_floats.Goals as goal

pub returns : goal.returns
returns c = answers_exact
