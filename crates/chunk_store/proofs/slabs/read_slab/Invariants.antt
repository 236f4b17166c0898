use Rattle.std.proofs.Common.{◌≡◌, ◌*◌, IsTrue, length}
use Rattle.shapes.specs.RowMajor.{cell_count}
use Rattle.hyperslab.specs.Selected.{extents}
use Rattle.chunk_store.specs.Slabs.{AreReady}
use Rattle.chunk_store.proofs.SlabLemmas.{AreChunksRead}
use Rattle.chunk_store.proofs.slabs.read_slab.Given as goal

abbrev pub invariant-loop-number : goal.invariant-loop-number
invariant-loop-number l = record {
  len : length l.out.items ≡ cell_count (extents l.slab) * l.frame.size;
  ready : IsTrue l.ready → AreReady l.chunks l.frame l.slab l.out.items;
  read : AreChunksRead l.chunks l.frame l.slab l.number l.out.items;
}
