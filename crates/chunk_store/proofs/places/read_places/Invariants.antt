use Rattle.std.proofs.Common.{◌-◌, ◌≡◌, ◌≤◌}
use Rattle.std.specs.List.{flat_map}
use Rattle.chunk_store.specs.Buffers.{bytes_at}
use Rattle.chunk_store.specs.Picked.{cells_from}
use Rattle.chunk_store.proofs.places.read_places.Given as goal

abbrev pub invariant-loop-done : goal.invariant-loop-done
invariant-loop-done l = record {
  few : l.done ≤ l.many;
  read : l.out.items ≡ flat_map (bytes_at l.chunks l.frame) (cells_from l.from l.done l.shape);
}

abbrev pub decreases-loop-done : goal.decreases-loop-done
decreases-loop-done l = l.many - l.done
