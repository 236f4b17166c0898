use Rattle.chunk_store.proofs.AdditionLemmas.{AreNewTo, chunk_of_point}
use Rattle.chunk_store.proofs.additions.new_in_points.Given as goal

abbrev pub invariant-loop-at : goal.invariant-loop-at
invariant-loop-at l = AreNewTo l.chunks (chunk_of_point l.frame.layout.chunk l.points) l.at-index l.new
