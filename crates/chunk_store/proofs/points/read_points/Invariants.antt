use Rattle.std.proofs.Common.{◌≡◌, ◌++◌, drop}
use Rattle.std.specs.List.{flat_map}
use Rattle.chunk_store.specs.Buffers.{bytes_at}
use Rattle.chunk_store.proofs.points.read_points.Given as goal

abbrev pub invariant-loop-at : goal.invariant-loop-at
invariant-loop-at l = l.out.items ++ flat_map (bytes_at l.chunks l.frame) (drop l.at-index l.points) ≡ flat_map (bytes_at l.chunks l.frame) l.points
