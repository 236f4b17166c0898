use Rattle.std.proofs.Common.{List, ℕ}
use Rattle.hyperslab.specs.Selected.{FitsIn, selected}
use Rattle.chunk_store.specs.Changes.{KeepsListed}
use Rattle.chunk_store.specs.Buffers.{AreFull, ChunkMap, IsGrown, IsUndoneBy}
use Rattle.chunk_store.proofs.SlabLemmas.{AreHeld}
use Rattle.chunk_store.proofs.slabs.grow_slab.Given as goal

abbrev pub invariant-loop-number : goal.invariant-loop-number
invariant-loop-number l = record {
  full : AreFull l.chunks l.frame;
  grown : (dims : List ℕ) → FitsIn l.slab dims → IsGrown l.fn.chunks l.chunks l.frame (selected l.slab dims);
  held : AreHeld l.chunks l.slab l.frame.layout.chunk l.number;
  undone : (before : ChunkMap) → IsUndoneBy l.fn.changes.added.items before l.fn.chunks → IsUndoneBy l.changes.added.items before l.chunks;
  keeps : KeepsListed l.fn.changes l.changes;
  listed : AreHeld l.changes.listed l.slab l.frame.layout.chunk l.number;
}
