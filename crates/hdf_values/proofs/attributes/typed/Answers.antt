-- A fault of the type keeps its path.
use Rattle.hdf_values.proofs.AttributeLemmas.{type_given}
use Rattle.hdf_values.proofs.attributes.typed.Goals as goal

pub returns-in_err-read_type-in-Some-clause-gives : goal.returns-in_err-read_type-in-Some-clause-gives
returns-in_err-read_type-in-Some-clause-gives c =
    rw c.in-Some.is (type_given _ _ _ c.from_residual.ensures.1 c.in_err-read_type-in-Some.ensures.first)
