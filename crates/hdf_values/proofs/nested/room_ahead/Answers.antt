-- The capped product of what was passed, times what is left, is that of all extents.
use Rattle.std.proofs.Common.{◌<◌, ◌-◌, ◌^◌, length, ◌∙◌, arith}
use Rattle.shapes.proofs.CapLemmas.{capped_next}
use Rattle.hdf_values.proofs.nested.room_ahead.Goals as goal

pub loop-extent-preserved : goal.loop-extent-preserved
loop-extent-preserved c =
    let within : c.loop-extent.extent-index < length c.args.extents.now = omega arith in
    rw c.saturating_mul-room.ensures (capped_next c.loop-extent.room c.loop-extent.extent-index (2 ^ 64 - 1) c.args.extents.now within ∙ c.loop-extent.invariant)
