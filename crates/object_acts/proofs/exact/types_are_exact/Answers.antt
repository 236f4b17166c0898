use Rattle.object_acts.proofs.OfExact.Floats.{type_exact}
use Rattle.object_acts.proofs.exact.types_are_exact.Goals as goal

pub returns : goal.returns
returns c = type_exact
