use Rattle.chunk_layout.proofs.GridLemmas.{IsLeft}
use Rattle.chunk_layout.proofs.grids.is_below.Given as goal

abbrev pub invariant-loop-axis : goal.invariant-loop-axis
invariant-loop-axis l = IsLeft l.axis l.index l.dims l.chunk
