use Rattle.std.proofs.Common.{◌≡◌, ◌∙◌, arith}
use Rattle.chunk_store.specs.Touched.{touched_at, touched_count}
use Rattle.chunk_store.proofs.AdditionLemmas.{none_new, one_new, slab_new}
use Rattle.chunk_store.proofs.TouchLemmas.{same_at, same_count}
use Rattle.chunk_store.proofs.additions.new_in_slab.Goals as goal

pub loop-number-init : goal.loop-number-init
loop-number-init c = none_new c.args.chunks.now (touched_at c.args.slab.now c.args.frame.now.layout.chunk) c.new-new.result c.new-new.ensures.empty

pub loop-number-preserved : goal.loop-number-preserved
loop-number-preserved c =
    one_new c.args.chunks.now (touched_at c.args.slab.now c.args.frame.now.layout.chunk) c.loop-number.number c.index-index.result c.loop-number.new c.note_new.new.new
    (c.index-index.ensures.same ∙ same_at c.new-touched.result c.args.slab.now c.args.frame.now.layout.chunk c.loop-number.number c.new-touched.ensures.slab c.new-touched.ensures.chunk)
    c.in_ok-note_new.ensures c.loop-number.invariant

pub returns : goal.returns
returns c =
    let s = c.args.slab.now in
    let f = c.args.frame.now in
    let t = c.new-touched.ensures in
    let all : c.loop-number.number ≡ touched_count c.args.slab.now c.args.frame.now.layout.chunk = omega (arith, c.loop-number.auto.number-end, c.loop-number-test.false, c.many-number-end.ensures, same_count c.new-touched.result s f.layout.chunk t.slab t.chunk) in
    slab_new c.args.chunks.now s f.layout.chunk c.loop-number.number c.loop-number.new c.requires.slab t.touched all c.loop-number.invariant
