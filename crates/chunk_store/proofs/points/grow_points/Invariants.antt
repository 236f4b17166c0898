use Rattle.std.proofs.Common.{take}
use Rattle.chunk_store.specs.Changes.{KeepsListed}
use Rattle.chunk_store.specs.Buffers.{AreThere, ChunkMap, IsGrown, IsUndoneBy}
use Rattle.chunk_store.proofs.points.grow_points.Given as goal

abbrev pub invariant-loop-at : goal.invariant-loop-at
invariant-loop-at l = record {
  grown : IsGrown l.initial.chunks l.chunks l.frame (take l.at-index l.points);
  there : AreThere l.chunks l.frame (take l.at-index l.points);
  undone : (before : ChunkMap) → IsUndoneBy l.initial.changes.added.items before l.initial.chunks → IsUndoneBy l.changes.added.items before l.chunks;
  keeps : KeepsListed l.initial.changes l.changes;
  listed : AreThere l.changes.listed l.frame (take l.at-index l.points);
}
