use Rattle.object_acts.proofs.OfExact.Floats.{numbers_exact, shape_exact}
use Rattle.object_acts.proofs.exact.shapes_are_exact.Goals as goal

pub returns : goal.returns
returns c = record { numbers = numbers_exact; shape = shape_exact }
