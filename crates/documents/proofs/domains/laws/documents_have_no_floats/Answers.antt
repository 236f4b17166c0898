use Rattle.documents.proofs.OfDomains.DocumentLemmas.{documents_exact}
use Rattle.documents.proofs.domains.laws.documents_have_no_floats.Goals as goal

pub returns : goal.returns
returns c = documents_exact
