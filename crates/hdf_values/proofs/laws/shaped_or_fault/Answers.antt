use Rattle.hdf_values.proofs.ShapedLemmas.{value_read}
use Rattle.hdf_values.proofs.ExactlyLemmas.{exactly_value}
use Rattle.hdf_values.proofs.laws.shaped_or_fault.Goals as goal

pub returns-clause-value : goal.returns-clause-value
returns-clause-value c = value_read

pub returns-clause-fault : goal.returns-clause-fault
returns-clause-fault c = λ e s d bs f h k. cc (h, value_read e s d bs k)

pub returns-clause-texts : goal.returns-clause-texts
returns-clause-texts c = exactly_value
