-- The tests agree with the relation.
use Rattle.std.proofs.Common.{◌≤◌, Ok, All, length}
use Rattle.shapes.specs.Shapes.{LiesIn}
use Rattle.point_select.specs.Points.{SpellsPoints}
use Rattle.point_select.specs.Faults.{points_of}
use Rattle.point_select.proofs.PointLemmas.{points_told, points_read, points_inside, points_few, answer_told, answer_same}
use Rattle.point_select.proofs.reading.read_points.Goals as goal

pub returns-clause-spelled : goal.returns-clause-spelled
returns-clause-spelled c =
    answer_told c.first_of.result (points_of c.args.tree.now c.args.shape.now) (SpellsPoints c.args.tree.now c.args.shape.now) (points_told c.args.tree.now c.args.shape.now) c.first_of.ensures.first

pub returns-clause-only : goal.returns-clause-only
returns-clause-only c = λ points h.
    answer_same c.first_of.result (points_of c.args.tree.now c.args.shape.now) (Ok points) (points_read c.args.tree.now c.args.shape.now points h) c.first_of.ensures.first

pub returns-clause-inside : goal.returns-clause-inside
returns-clause-inside c =
    answer_told c.first_of.result (points_of c.args.tree.now c.args.shape.now) (All (λ at. LiesIn at c.args.shape.now)) (λ points e. points_inside c.args.tree.now c.args.shape.now points (points_told c.args.tree.now c.args.shape.now points e)) c.first_of.ensures.first

pub returns-clause-few : goal.returns-clause-few
returns-clause-few c =
    answer_told c.first_of.result (points_of c.args.tree.now c.args.shape.now) (λ points. length points ≤ 65536) (λ points e. points_few c.args.tree.now c.args.shape.now points (points_told c.args.tree.now c.args.shape.now points e)) c.first_of.ensures.first
