-- The capped product of what was passed, times what is left, is that of all dims.
use Rattle.std.proofs.Common.{◌<◌, ◌≤◌, ◌-◌, ◌^◌, length, ◌∙◌, arith}
use Rattle.shapes.proofs.SpelledLemmas.{room_next, room_end}
use Rattle.documents.proofs.parts.attribute_lists.room.Goals as goal

pub loop-n-preserved : goal.loop-n-preserved
loop-n-preserved c =
    let within : c.loop-n.n-index < length c.args.dims.now = omega arith in
    record {
      product = rw (c.saturating_mul-total.ensures, c.max.ensures) (room_next c.loop-n.total c.loop-n.n-index (2 ^ 64 - 1) c.args.dims.now within ∙ c.loop-n.invariant.product);
      capped = omega arith;
    }

pub returns : goal.returns
returns c =
    let past : length c.args.dims.now ≤ c.loop-n.n-index = omega arith in
    room_end c.loop-n.total c.loop-n.n-index (2 ^ 64 - 1) c.args.dims.now past c.loop-n.invariant.capped ∙ c.loop-n.invariant.product
