use Rattle.std.proofs.Common.{◌≡◌, ◌≤◌, ◌*◌, ◌-◌, ◌^◌, min, drop}
use Rattle.shapes.specs.RowMajor.{room_of}
use Rattle.documents.proofs.parts.attribute_lists.room.Given as goal

abbrev pub invariant-loop-n : goal.invariant-loop-n
invariant-loop-n l = record {
  product : min (l.total * room_of (drop l.n-index l.dims)) (2 ^ 64 - 1) ≡ min (room_of l.dims) (2 ^ 64 - 1);
  capped : l.total ≤ 2 ^ 64 - 1;
}
