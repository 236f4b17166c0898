use Rattle.documents.proofs.OfDomains.LengthLemmas.{least_lengths}
use Rattle.documents.proofs.domains.laws.documents_have_least_lengths.Goals as goal

pub returns : goal.returns
returns c = least_lengths
