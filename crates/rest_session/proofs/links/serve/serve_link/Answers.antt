use Rattle.rest_session.proofs.OfLinks.Progress.{nothing}
use Rattle.rest_session.proofs.links.serve.serve_link.Goals as goal

pub returns-in-Err-clause-transcript : goal.returns-in-Err-clause-transcript
returns-in-Err-clause-transcript g c = nothing _ _ _ _
