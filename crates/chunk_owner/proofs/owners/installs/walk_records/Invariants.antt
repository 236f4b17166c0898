use Rattle.std.proofs.Common.{option_map, vec_items}
use Rattle.chunk_owner.proofs.OfOwners.DrainLemmas.{size_at}
use Rattle.chunk_owner.proofs.OfOwners.WalkLemmas.{IsWalkedTo}
use Rattle.chunk_owner.proofs.owners.installs.walk_records.Given as goal

abbrev pub invariant-loop-at : goal.invariant-loop-at
invariant-loop-at l = IsWalkedTo l.lanes l.run l.next l.fn.kept l.kept (option_map vec_items l.at) l.owners.items (option_map vec_items l.bad)

abbrev pub decreases-loop-at : goal.decreases-loop-at
decreases-loop-at l = size_at l.fn.kept (option_map vec_items l.at)
