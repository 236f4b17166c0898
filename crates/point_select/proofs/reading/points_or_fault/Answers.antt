-- The relation and the tests in order say the same.
use Rattle.point_select.specs.Faults.{points_of}
use Rattle.point_select.proofs.PointLemmas.{points_told, points_read, points_bad, same_points}
use Rattle.point_select.proofs.reading.points_or_fault.Goals as goal

pub returns-clause-one : goal.returns-clause-one
returns-clause-one c = λ d shape ps qs h k. same_points ps qs (points_of d shape) (points_read d shape ps h) (points_read d shape qs k)

pub returns-clause-spelled : goal.returns-clause-spelled
returns-clause-spelled c = λ d shape ps. (points_read d shape ps, points_told d shape ps)

pub returns-clause-fault : goal.returns-clause-fault
returns-clause-fault c = λ d shape f ps e h. cc (e, points_read d shape ps h)

pub returns-clause-first : goal.returns-clause-first
returns-clause-first c = λ d dims limits items f is few e. points_bad d dims limits items f is few e
