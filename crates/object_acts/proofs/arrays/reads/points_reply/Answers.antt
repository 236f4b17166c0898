use Rattle.std.proofs.Common.{All, subst}
use Rattle.shapes.specs.declared.Shape.{Shape}
use Rattle.shapes.specs.Shapes.{LiesIn}
use Rattle.object_acts.proofs.arrays.reads.points_reply.Goals as goal

pub elements_reply-requires : goal.elements_reply-requires
elements_reply-requires c =
    let P : Shape → Type 0 = λ s. All (λ at. LiesIn at s) c.in_ok-points.points in
    subst P c.shape.ensures c.in_ok-points.ensures.inside
