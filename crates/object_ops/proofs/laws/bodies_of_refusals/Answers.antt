use Rattle.object_ops.proofs.BodyLemmas.{path_told, reason_told}
use Rattle.object_ops.proofs.laws.bodies_of_refusals.Goals as goal

pub returns : goal.returns
returns c = record { reason = reason_told; path = path_told }
