use Rattle.std.proofs.Common.{◌≡◌, ◌*◌, take, drop}
use Rattle.chunk_store.specs.Buffers.{IsWritten}
use Rattle.chunk_store.proofs.points.write_points.Given as goal

abbrev pub invariant-loop-at : goal.invariant-loop-at
invariant-loop-at l = record {
  rest : l.rest ≡ drop (l.at-index * l.frame.size) l.bytes;
  written : IsWritten l.initial.chunks l.chunks l.frame (take l.at-index l.points) (take (l.at-index * l.frame.size) l.bytes);
}
