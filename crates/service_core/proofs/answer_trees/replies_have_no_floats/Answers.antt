use Rattle.service_core.proofs.AnswerTrees.Floats.{acts_exact, decisions_exact, refusals_exact}
use Rattle.service_core.proofs.answer_trees.replies_have_no_floats.Goals as goal

pub returns : goal.returns
returns c = record { decided = decisions_exact; acted = acts_exact; refused = refusals_exact }
