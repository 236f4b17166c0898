use Rattle.documents.proofs.OfParts.ToldLemmas.{attribute_told}
use Rattle.documents.proofs.parts.attribute_lists.content_at.Goals as goal

pub returns-in-Err-clause-exact : goal.returns-in-Err-clause-exact
returns-in-Err-clause-exact c = attribute_told _ c.in-Err.fault _ c.told.result c.in-Err.ensures.first c.told.ensures
