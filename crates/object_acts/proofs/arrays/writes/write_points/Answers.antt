use Rattle.std.proofs.Common.{All, subst}
use Rattle.shapes.specs.declared.Shape.{Shape}
use Rattle.shapes.specs.Shapes.{LiesIn}
use Rattle.object_acts.proofs.arrays.writes.write_points.Goals as goal

pub write_points-requires-clause-inside : goal.write_points-requires-clause-inside
write_points-requires-clause-inside c =
    let P : Shape → Type 0 = λ s. All (λ at. LiesIn at s) c.in_ok-points.points in
    subst P c.shape.ensures c.in_ok-points.ensures.inside

pub points_add-requires : goal.points_add-requires
points_add-requires c =
    let P : Shape → Type 0 = λ s. All (λ at. LiesIn at s) c.in_ok-points.points in
    subst P c.shape.ensures c.in_ok-points.ensures.inside
