use Rattle.chunk_store.proofs.SlabLemmas.{AreChunksWritten}
use Rattle.chunk_store.proofs.slabs.write_slab.Given as goal

abbrev pub invariant-loop-number : goal.invariant-loop-number
invariant-loop-number l = record { so : AreChunksWritten l.fn.chunks l.chunks l.frame l.slab l.number l.bytes }
