use Rattle.object_acts.proofs.OfExact.Floats.{creation_exact}
use Rattle.object_acts.proofs.exact.creation_properties_are_exact.Goals as goal

pub returns : goal.returns
returns c = creation_exact
