-- The capped product of what was passed, times what is left, is that of all dims.
use Rattle.std.proofs.Common.{◌<◌, ◌≤◌, ◌-◌, ◌^◌, length, ◌∙◌, arith}
use Rattle.shapes.proofs.CapLemmas.{capped_next}
use Rattle.chunk_layout.proofs.SizeLemmas.{bytes_end}
use Rattle.chunk_layout.proofs.sizes.bytes.Goals as goal

pub loop-n-preserved : goal.loop-n-preserved
loop-n-preserved c =
    let within : c.loop-n.n-index < length c.args.chunk.now = omega arith in
    record {
      product = rw c.saturating_mul-total.ensures (capped_next c.loop-n.total c.loop-n.n-index (2 ^ 64 - 1) c.args.chunk.now within ∙ c.loop-n.invariant.product);
      capped = omega arith;
    }

pub returns : goal.returns
returns c =
    let past : length c.args.chunk.now ≤ c.loop-n.n-index = omega arith in
    bytes_end c.loop-n.total c.loop-n.n-index (2 ^ 64 - 1) c.args.chunk.now past c.loop-n.invariant.capped ∙ c.loop-n.invariant.product
