-- The relation and the tests in order say the same.
use Rattle.hdf_values.specs.Attributes.{attribute_of}
use Rattle.hdf_values.proofs.AttributeLemmas.{attribute_read, one_of}
use Rattle.hdf_values.proofs.laws.attribute_or_fault.Goals as goal

pub returns-clause-one : goal.returns-clause-one
returns-clause-one c = λ d a b h k. one_of a b (attribute_of d) (attribute_read d a h) (attribute_read d b k)

pub returns-clause-value : goal.returns-clause-value
returns-clause-value c = attribute_read

pub returns-clause-fault : goal.returns-clause-fault
returns-clause-fault c = λ d f a e h. cc (e, attribute_read d a h)
