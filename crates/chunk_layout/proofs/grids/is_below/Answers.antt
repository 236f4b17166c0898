-- Another rank is none of the grid.
use Rattle.std.proofs.Common.{arith}
use Rattle.chunk_layout.proofs.GridLemmas.{other_rank}
use Rattle.chunk_layout.proofs.grids.is_below.Goals as goal

pub returns-then-len : goal.returns-then-len
returns-then-len c = (λ h. cc, λ h. absurd (other_rank c.args.index.now c.args.dims.now c.args.chunk.now c.requires.ranks (λ e. omega (arith, e)) h))
