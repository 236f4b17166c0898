use Rattle.rest_session.proofs.OfLinks.StepLemmas.{written}
use Rattle.rest_session.proofs.links.writing.send_text.Goals as goal

pub returns-clause-sent : goal.returns-clause-sent
returns-clause-sent g c = written _ _ _ _ _ c.as_bytes.ensures.value c.write_all.ensures.ok c.write_all.ensures.err
