use Rattle.object_acts.proofs.OfDepths.Depths.{attribute_deep, attributes_deep}
use Rattle.object_acts.proofs.depths.attributes_nest_little.Goals as goal

pub returns : goal.returns
returns c = record { one = attribute_deep; list = attributes_deep }
