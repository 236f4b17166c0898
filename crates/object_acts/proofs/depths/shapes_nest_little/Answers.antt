use Rattle.object_acts.proofs.OfDepths.Depths.{numbers_deep, shape_deep}
use Rattle.object_acts.proofs.depths.shapes_nest_little.Goals as goal

pub returns : goal.returns
returns c = record { numbers = numbers_deep; shape = shape_deep }
