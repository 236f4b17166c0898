use Rattle.rest_session.proofs.OfLinks.Readings.{uncut, peaceful, all_answered}
use Rattle.rest_session.proofs.links.laws.whole_messages_are_served.Goals as goal

pub returns-clause-uncut : goal.returns-clause-uncut
returns-clause-uncut g c = uncut g.V.Service.step

pub returns-clause-served : goal.returns-clause-served
returns-clause-served g c = peaceful g.V.Service.step

pub returns-clause-all : goal.returns-clause-all
returns-clause-all g c = all_answered g.V.Service.step
