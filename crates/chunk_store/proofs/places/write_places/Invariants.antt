use Rattle.std.proofs.Common.{◌-◌, ◌*◌, ◌≡◌, ◌≤◌, take, drop}
use Rattle.chunk_store.specs.Buffers.{IsWritten}
use Rattle.chunk_store.specs.Picked.{cells_from}
use Rattle.chunk_store.proofs.places.write_places.Given as goal

abbrev pub invariant-loop-done : goal.invariant-loop-done
invariant-loop-done l = record {
  few : l.done ≤ l.many;
  rest : l.rest ≡ drop (l.done * l.frame.size) l.bytes;
  written : IsWritten l.initial.chunks l.chunks l.frame (cells_from l.from l.done l.shape) (take (l.done * l.frame.size) l.bytes);
}

abbrev pub decreases-loop-done : goal.decreases-loop-done
decreases-loop-done l = l.many - l.done
