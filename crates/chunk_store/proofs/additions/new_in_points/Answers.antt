use Rattle.std.proofs.Common.{◌≡◌, ap, sym, length, ◌∙◌, arith}
use Rattle.chunk_layout.specs.Chunks.{quotients}
use Rattle.chunk_store.proofs.AdditionLemmas.{chunk_of_point, none_new, one_new, points_new}
use Rattle.chunk_store.proofs.PointLemmas.{item_here}
use Rattle.chunk_store.proofs.additions.new_in_points.Goals as goal

pub loop-at-init : goal.loop-at-init
loop-at-init c = none_new c.args.chunks.now (chunk_of_point c.args.frame.now.layout.chunk c.args.points.now) c.new-new.result c.new-new.ensures.empty

pub loop-at-preserved : goal.loop-at-preserved
loop-at-preserved c =
    let ats = c.args.points.now in
    let k = c.loop-at.at-index in
    one_new c.args.chunks.now (chunk_of_point c.args.frame.now.layout.chunk c.args.points.now) k c.chunk_of-index.result c.loop-at.new c.note_new.new.new
    (c.chunk_of-index.ensures ∙ ap (λ x. quotients x c.args.frame.now.layout.chunk) (sym (item_here ats k c.at-item.result c.loop-at-test.true c.at-item.is)))
    c.in_ok-note_new.ensures c.loop-at.invariant

pub returns : goal.returns
returns c =
    let all : c.loop-at.at-index ≡ length c.args.points.now = omega (arith, c.loop-at.auto.at-index-end, c.loop-at-test.false) in
    points_new c.args.chunks.now c.args.frame.now.layout.chunk c.args.points.now c.loop-at.at-index c.loop-at.new all c.loop-at.invariant
