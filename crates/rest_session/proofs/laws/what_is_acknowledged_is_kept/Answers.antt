use Rattle.rest_session.proofs.OfHalls.Acknowledged.{acknowledged_is_kept}
use Rattle.rest_session.proofs.laws.what_is_acknowledged_is_kept.Goals as goal

pub returns : goal.returns
returns c = acknowledged_is_kept
