use Rattle.documents.proofs.OfParts.ToldLemmas.{value_told}
use Rattle.documents.proofs.parts.arrays.kept_value_in.Goals as goal

pub returns-in-Err-clause-exact : goal.returns-in-Err-clause-exact
returns-in-Err-clause-exact c = value_told _ c.in-Err.fault _ c.value_told.result c.in-Err.ensures.first c.value_told.ensures
