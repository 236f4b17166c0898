use Rattle.object_acts.proofs.OfArrays.LawLemmas.{value_kept, shape_kept}
use Rattle.object_acts.proofs.arrays.laws.refusals_leave_the_array.Goals as goal

pub returns : goal.returns
returns c = record { value = value_kept; dims = shape_kept }
