use Rattle.std.proofs.Common.{◌-◌, ◌≤◌}
use Rattle.chunk_store.specs.Changes.{KeepsListed}
use Rattle.chunk_store.specs.Buffers.{AreThere, ChunkMap, IsGrown, IsUndoneBy}
use Rattle.chunk_store.specs.Picked.{cells_from}
use Rattle.chunk_store.proofs.places.grow_places.Given as goal

abbrev pub invariant-loop-done : goal.invariant-loop-done
invariant-loop-done l = record {
  few : l.done ≤ l.many;
  grown : IsGrown l.initial.chunks l.chunks l.frame (cells_from l.from l.done l.shape);
  there : AreThere l.chunks l.frame (cells_from l.from l.done l.shape);
  undone : (before : ChunkMap) → IsUndoneBy l.initial.changes.added.items before l.initial.chunks → IsUndoneBy l.changes.added.items before l.chunks;
  keeps : KeepsListed l.initial.changes l.changes;
  listed : AreThere l.changes.listed l.frame (cells_from l.from l.done l.shape);
}

abbrev pub decreases-loop-done : goal.decreases-loop-done
decreases-loop-done l = l.many - l.done
