use Rattle.object_acts.proofs.OfExact.Floats.{attribute_exact, attributes_exact}
use Rattle.object_acts.proofs.exact.attributes_are_exact.Goals as goal

pub returns : goal.returns
returns c = record { one = attribute_exact; list = attributes_exact }
