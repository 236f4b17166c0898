-- The total stays within the room of all extents.
use Rattle.std.proofs.Common.{◌≡◌, ◌*◌, ◌<◌, max, get_or, length, ap, arith}
use Rattle.hyperslab.proofs.AxisLemmas.{room_bound}
use Rattle.hyperslab.proofs.judging.room.Goals as goal

pub overflow_mul-total : goal.overflow_mul-total
overflow_mul-total c =
    let within : c.loop-n.n-index < length c.args.extents.now = omega arith in
    let below = room_bound c.loop-n.total c.loop-n.n-index c.args.extents.now within in
    let factor : c.loop-n.total * c.max-total.result ≡ c.loop-n.total * max (get_or c.args.extents.now c.loop-n.n-index 0) 1 = ap (λ m. c.loop-n.total * m) c.max-total.ensures in
    omega (arith, below, factor, c.loop-n.invariant)
