use Rattle.object_acts.proofs.OfExact.Floats.{element_exact, nested_exact, value_exact}
use Rattle.object_acts.proofs.exact.values_are_exact.Goals as goal

pub returns : goal.returns
returns c = record { element = element_exact; nested = nested_exact; value = value_exact }
