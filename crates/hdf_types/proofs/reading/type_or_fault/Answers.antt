-- The relation and the tests in order say the same.
use Rattle.hdf_types.specs.Reading.{type_of}
use Rattle.hdf_types.proofs.TypeLemmas.{type_told, type_read, one_of}
use Rattle.hdf_types.proofs.reading.type_or_fault.Goals as goal

pub returns-clause-one : goal.returns-clause-one
returns-clause-one c = λ d e f h k. one_of e f (type_of d) (type_read d e h) (type_read d f k)

pub returns-clause-spelled : goal.returns-clause-spelled
returns-clause-spelled c = λ d e. (type_read d e, type_told d e)

pub returns-clause-fault : goal.returns-clause-fault
returns-clause-fault c = λ d f e h k. cc (h, type_read d e k)
