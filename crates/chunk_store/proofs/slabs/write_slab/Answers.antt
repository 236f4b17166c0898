use Rattle.std.proofs.Common.{◌≡◌, ◌<◌, ap, ◌∙◌, arith}
use Rattle.chunk_store.specs.Cells.{has}
use Rattle.chunk_store.specs.Touched.{touched_at, touched_count}
use Rattle.chunk_store.proofs.TouchLemmas.{same_count, same_at}
use Rattle.chunk_store.proofs.SlabLemmas.{there_held, write_first, write_more, write_done}
use Rattle.chunk_store.proofs.slabs.write_slab.Goals.{After-index-index}
use Rattle.chunk_store.proofs.slabs.write_slab.Goals as goal

same : (c : After-index-index) → c.index-index.result ≡ touched_at c.args.slab.now c.args.frame.now.layout.chunk c.loop-number.number
same c = c.index-index.ensures.same ∙ same_at c.new-touched.result c.args.slab.now c.args.frame.now.layout.chunk c.loop-number.number c.new-touched.ensures.slab c.new-touched.ensures.chunk

pub loop-number-init : goal.loop-number-init
loop-number-init c = record { so = write_first c.args.chunks.now c.args.frame.now c.args.slab.now c.args.bytes.now c.requires.full }

pub write_chunk-requires-clause-full : goal.write_chunk-requires-clause-full
write_chunk-requires-clause-full c = c.loop-number.invariant.so.full

pub write_chunk-requires-clause-there : goal.write_chunk-requires-clause-there
write_chunk-requires-clause-there c =
    let s = c.args.slab.now in
    let f = c.args.frame.now in
    let t = c.new-touched.ensures in
    let low : c.loop-number.number < touched_count c.args.slab.now c.args.frame.now.layout.chunk = omega (arith, c.loop-number-test.true, c.many-number-end.ensures, same_count c.new-touched.result s f.layout.chunk t.slab t.chunk) in
    c.loop-number.invariant.so.keys c.index-index.result ∙ ap (has c.args.chunks.now) (same (goal.at.write_chunk-requires-clause-there c).After-index-index)
    ∙ there_held c.args.chunks.now f s c.loop-number.number c.requires.slab t.touched c.requires.there low

pub loop-number-preserved : goal.loop-number-preserved
loop-number-preserved c = record {
  so =
      write_more c.args.chunks.now c.loop-number.chunks c.write_chunk.new.chunks c.args.frame.now c.args.slab.now c.loop-number.number c.index-index.result c.args.bytes.now c.requires.slab c.requires.rank
      (same (goal.at.loop-number-preserved c).After-index-index) c.loop-number.invariant.so c.write_chunk.ensures;
}

pub returns : goal.returns
returns c =
    let s = c.args.slab.now in
    let f = c.args.frame.now in
    let t = c.new-touched.ensures in
    let all : c.loop-number.number ≡ touched_count c.args.slab.now c.args.frame.now.layout.chunk = omega (arith, c.loop-number-test.false, c.loop-number.auto.number-end, c.many-number-end.ensures, same_count c.new-touched.result s f.layout.chunk t.slab t.chunk) in
    write_done c.args.chunks.now c.loop-number.chunks f s c.loop-number.number c.args.bytes.now c.requires.slab c.requires.rank t.touched all c.loop-number.invariant.so
