use Rattle.object_acts.proofs.OfDepths.Depths.{type_deep}
use Rattle.object_acts.proofs.depths.types_nest_by_compounds.Goals as goal

pub returns : goal.returns
returns c = type_deep
