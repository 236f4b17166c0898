use Rattle.rest_session.proofs.OfLinks.Readings.{same_reading}
use Rattle.rest_session.proofs.links.laws.one_reading.Goals as goal

pub returns : goal.returns
returns c = same_reading
