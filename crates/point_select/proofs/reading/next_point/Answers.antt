-- Coordinates, and the tests of them.
use Rattle.std.proofs.Common.{Some, inr, sym, ◌∙◌}
use Rattle.shapes.specs.Shapes.{dims_of}
use Rattle.point_select.proofs.PointLemmas.{point_given, point_unread, where_ok}
use Rattle.point_select.proofs.reading.next_point.Goals as goal

pub returns-in_default : goal.returns-in_default
returns-in_default c tree rest h =
    let found = c.in_ok-at.ensures.told tree rest h in
    (inr (point_unread (dims_of c.args.shape.now) c.args.index tree (sym found.1 ∙ c.in_default.is)), tt)

pub returns : goal.returns
returns c tree rest h =
    let found = c.in_ok-at.ensures.told tree rest h in (
      point_given c.judged.result (dims_of c.args.shape.now) c.args.index tree (Some c.in-Some.at) c.judged.ensures (sym c.in-Some.is ∙ found.1),
      where_ok c.judged.result found.0,
    )
