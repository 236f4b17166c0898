-- The relation and the tests in order say the same.
use Rattle.shapes.specs.Shapes.{shape_of}
use Rattle.shapes.proofs.ShapeLemmas.{shape_told, shape_read, same_ok}
use Rattle.shapes.proofs.reading.shape_or_fault.Goals as goal

pub returns-clause-one : goal.returns-clause-one
returns-clause-one c = λ shape limits s t h k. same_ok s t (shape_of shape limits) (shape_read shape limits s h) (shape_read shape limits t k)

pub returns-clause-spelled : goal.returns-clause-spelled
returns-clause-spelled c = λ shape limits s. (shape_read shape limits s, shape_told shape limits s)

pub returns-clause-fault : goal.returns-clause-fault
returns-clause-fault c = λ shape limits f s e h. cc (e, shape_read shape limits s h)
