use Rattle.hdf_values.proofs.ElementLemmas.{encoded-fits, no_fault}
use Rattle.hdf_values.proofs.ExactlyLemmas.{exactly_fits}
use Rattle.hdf_values.proofs.TreeTextLemmas.{value_texts}
use Rattle.hdf_values.proofs.laws.value_or_fault.Goals as goal

pub returns-clause-value : goal.returns-clause-value
returns-clause-value c = encoded-fits

pub returns-clause-fault : goal.returns-clause-fault
returns-clause-fault c = no_fault

pub returns-clause-texts : goal.returns-clause-texts
returns-clause-texts c = exactly_fits

pub returns-clause-trees : goal.returns-clause-trees
returns-clause-trees c = value_texts
