use Rattle.rest_session.proofs.OfLinks.Views.{transcript_shown}
use Rattle.rest_session.proofs.links.laws.transcripts_are_shown.Goals as goal

pub returns : goal.returns
returns g c = λ show each w v taken sent left end t. transcript_shown show g.V.Service.step g.X.Service.step each w v taken sent left end t
