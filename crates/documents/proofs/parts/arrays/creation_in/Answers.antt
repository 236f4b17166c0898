use Rattle.documents.proofs.OfParts.ToldLemmas.{creation_told}
use Rattle.documents.proofs.parts.arrays.creation_in.Goals as goal

pub returns-in-Err-clause-exact : goal.returns-in-Err-clause-exact
returns-in-Err-clause-exact c = creation_told _ c.in-Err.fault _ c.creation_told.result c.in-Err.ensures.first c.creation_told.ensures
