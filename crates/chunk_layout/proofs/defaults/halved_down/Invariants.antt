use Rattle.chunk_layout.proofs.DefaultLemmas.{IsOnWay, total}
use Rattle.chunk_layout.proofs.defaults.halved_down.Given as goal

abbrev pub invariant-loop-chunk : goal.invariant-loop-chunk
invariant-loop-chunk l = IsOnWay l.size l.fn.start l.chunk

abbrev pub decreases-loop-chunk : goal.decreases-loop-chunk
decreases-loop-chunk l = total l.chunk
