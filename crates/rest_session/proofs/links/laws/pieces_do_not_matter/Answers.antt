use Rattle.rest_session.proofs.OfLinks.Endings.{ends_alike, same_closing}
use Rattle.rest_session.proofs.OfLinks.Readings.{same_messages}
use Rattle.rest_session.proofs.links.laws.pieces_do_not_matter.Goals as goal

pub returns : goal.returns
returns g c = record {
  messages = same_messages g.V.Service.step;
  ends = ends_alike g.V.Service.step;
  closing = same_closing g.V.Service.step;
}
