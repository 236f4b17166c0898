use Rattle.service_core.proofs.AnswerTrees.Statuses.{statuses_done}
use Rattle.service_core.proofs.answer_trees.answers_have_done_statuses.Goals as goal

pub returns : goal.returns
returns c = statuses_done
