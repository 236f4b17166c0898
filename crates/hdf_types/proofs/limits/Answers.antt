-- A sound type has a byte, and a fault has few compounds around it.
use Rattle.hdf_types.proofs.FirstFaultLemmas.{first_fault_depth}
use Rattle.hdf_types.proofs.SoundLemmas.{some_size}
use Rattle.hdf_types.proofs.limits.Goals as goal

pub returns-clause-some_byte : goal.returns-clause-some_byte
returns-clause-some_byte c = λ e h. some_size e h.formed

pub returns-clause-path : goal.returns-clause-path
returns-clause-path c = λ d path cause h. first_fault_depth d path cause h
