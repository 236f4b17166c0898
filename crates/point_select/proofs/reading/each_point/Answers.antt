-- Item by item.
use Rattle.std.proofs.Common.{◌+◌, Ok, sym, ap, subst, ◌∙◌, arith}
use Rattle.json_trees.specs.Trees.{list_of}
use Rattle.shapes.specs.Shapes.{dims_of}
use Rattle.json_trees.proofs.OfKept.StreamLemmas.{IsLeft}
use Rattle.point_select.proofs.PointLemmas.{AreBehind, behind_first, behind_more, behind_over, behind_stop, handed}
use Rattle.point_select.proofs.reading.each_point.Goals as goal

pub loop-index-init : goal.loop-index-init
loop-index-init c = record {
  left = λ trees rest h many. record {
    left = trees;
    here = h;
    holds = subst (λ points. AreBehind (dims_of c.args.shape.now) (list_of trees) c.args.count points 0 (list_of trees)) (sym c.in_ok-list.ensures.items) (behind_first (dims_of c.args.shape.now) (list_of trees) c.args.count many);
  };
  len = c.in_ok-list.ensures.len;
  room = c.in_ok-list.ensures.exact;
}

pub returns-in_err-at : goal.returns-in_err-at
returns-in_err-at c trees rest h many =
    let l = c.loop-index in
    handed c.from_residual-in_err-at.result _ _ c.from_residual-in_err-at.ensures.1
    (behind_stop (dims_of c.args.shape.now) (list_of trees) c.args.count l.list.items l.index _ l.reader rest (omega arith) (l.invariant.left trees rest h many) (λ tree mid begun. (c.in_err-at.ensures tree mid begun).0))

pub loop-index-preserved : goal.loop-index-preserved
loop-index-preserved c =
    let l = c.loop-index in
    record {
      left = λ trees rest h many.
          let more = behind_more (dims_of c.args.shape.now) (list_of trees) c.args.count l.list.items l.index c.in_ok-at.at l.reader c.next_point.new.reader rest (omega arith) (l.invariant.left trees rest h many) (λ tree mid begun. c.in_ok-at.ensures tree mid begun) in
          subst (λ points. IsLeft (AreBehind (dims_of c.args.shape.now) (list_of trees) c.args.count points (l.index + 1)) c.next_point.new.reader rest) (sym c.push_reserved.ensures.items) more;
      len = omega arith;
      room = c.push_reserved.ensures.capacity ∙ l.invariant.room;
    }

pub returns : goal.returns
returns c trees rest h many =
    let l = c.loop-index in
    behind_over (dims_of c.args.shape.now) (list_of trees) c.args.count l.list.items l.index l.reader rest (omega arith) (l.invariant.left trees rest h many) ∙ ap Ok (sym c.new.ensures)
