use Rattle.hdf_values.proofs.ContentLemmas.{same_type, same_attribute}
use Rattle.hdf_values.proofs.laws.contents_tell_apart.Goals as goal

pub returns-clause-types : goal.returns-clause-types
returns-clause-types c = same_type

pub returns-clause-attributes : goal.returns-clause-attributes
returns-clause-attributes c = same_attribute
