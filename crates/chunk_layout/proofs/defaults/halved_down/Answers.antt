-- A large chunk's dims have a smaller sum once the largest is halved.
use Rattle.std.proofs.Common.{refl}
use Rattle.chunk_layout.specs.Defaults.{largest}
use Rattle.chunk_layout.proofs.DefaultLemmas.{halve_falls, way_goes}
use Rattle.chunk_layout.proofs.defaults.halved_down.Goals as goal

pub loop-chunk-smaller : goal.loop-chunk-smaller
loop-chunk-smaller c =
    let large = c.is_large.ensures.0 c.loop-chunk-test.true in
    rw c.halve-chunk.ensures (halve_falls (largest c.loop-chunk.chunk) c.loop-chunk.chunk large.1 refl)

pub loop-chunk-preserved : goal.loop-chunk-preserved
loop-chunk-preserved c =
    let large = c.is_large.ensures.0 c.loop-chunk-test.true in
    rw c.halve-chunk.ensures (way_goes c.args.size c.args.start c.loop-chunk.chunk c.loop-chunk.invariant large)
