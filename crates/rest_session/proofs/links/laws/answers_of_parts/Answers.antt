use Rattle.rest_session.proofs.OfLinks.Progress.{replays_joined, replays_parted}
use Rattle.rest_session.proofs.links.laws.answers_of_parts.Goals as goal

pub returns-clause-joined : goal.returns-clause-joined
returns-clause-joined g c = replays_joined g.V.Service.step

pub returns-clause-parted : goal.returns-clause-parted
returns-clause-parted g c = replays_parted g.V.Service.step
