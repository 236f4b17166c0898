-- The total stays within the room of all dims.
use Rattle.std.proofs.Common.{◌<◌, length, arith}
use Rattle.shapes.specs.RowMajor.{room_of}
use Rattle.shapes.proofs.RowMajorLemmas.{room_bound}
use Rattle.shapes.proofs.row_major.cells.Goals as goal

pub overflow_mul-total : goal.overflow_mul-total
overflow_mul-total c =
    let within : c.loop-n.n-index < length c.args.dims.now = omega arith in
    let below = room_bound c.loop-n.total c.loop-n.n-index c.args.dims.now (room_of c.args.dims.now) within c.loop-n.invariant.room in
    omega (arith, below)
