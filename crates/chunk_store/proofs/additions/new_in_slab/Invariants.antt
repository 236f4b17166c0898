use Rattle.chunk_store.specs.Touched.{touched_at}
use Rattle.chunk_store.proofs.AdditionLemmas.{AreNewTo}
use Rattle.chunk_store.proofs.additions.new_in_slab.Given as goal

abbrev pub invariant-loop-number : goal.invariant-loop-number
invariant-loop-number l = AreNewTo l.chunks (touched_at l.slab l.frame.layout.chunk) l.number l.new
