-- The tests of a node, and those of its fields, one after another.
use Rattle.hdf_types.proofs.FirstFaultLemmas.{first_fault_told}
use Rattle.hdf_types.proofs.FoundFaultLemmas.{first_fault_found}
use Rattle.hdf_types.proofs.reading.first_fault.Goals as goal

pub returns : goal.returns
returns c = λ d path cause. (first_fault_told d path cause, first_fault_found d path cause)
