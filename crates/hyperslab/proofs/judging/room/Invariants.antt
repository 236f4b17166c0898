use Rattle.std.proofs.Common.{◌≡◌, ◌*◌, drop}
use Rattle.shapes.specs.RowMajor.{room_of}
use Rattle.hyperslab.proofs.judging.room.Given as goal

abbrev pub invariant-loop-n : goal.invariant-loop-n
invariant-loop-n l = l.total * room_of (drop l.n-index l.extents) ≡ room_of l.extents
