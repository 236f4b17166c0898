use Rattle.rest_session.proofs.KeptNodes.{answered_stays}
use Rattle.rest_session.proofs.laws.what_is_not_kept_changes_no_node.Goals as goal

pub returns : goal.returns
returns c = λ w v caller request answer steps e. answered_stays w v caller request answer.what steps.answered e
