use Rattle.std.proofs.Common.{None}
use Rattle.chunk_store.specs.Buffers.{held_but}
use Rattle.chunk_store.proofs.GrowthLemmas.{removed_next}
use Rattle.chunk_store.proofs.KeyLemmas.{find-updated}
use Rattle.chunk_store.proofs.PointLemmas.{item_here}
use Rattle.chunk_store.proofs.buffers.remove_chunks.Goals as goal

pub loop-index-preserved : goal.loop-index-preserved
loop-index-preserved c = λ i.
    removed_next c.loop-index.chunks c.remove.new.self c.args.indexes.now c.loop-index.index-index c.index-item.result c.loop-index-test.true (item_here c.args.indexes.now c.loop-index.index-index c.index-item.result c.loop-index-test.true c.index-item.is)
    (find-updated c.loop-index.chunks c.remove.new.self c.index-item.result None c.remove.ensures.updates) i (held_but c.args.indexes.now c.args.chunks.now i) (c.loop-index.invariant i)
