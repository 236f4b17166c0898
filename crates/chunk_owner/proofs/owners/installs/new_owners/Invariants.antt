use Rattle.std.proofs.Common.{◌≡◌, length}
use Rattle.chunk_owner.specs.Owners.Walks.{AreNew}
use Rattle.chunk_owner.proofs.owners.installs.new_owners.Given as goal

abbrev pub invariant-loop-lane : goal.invariant-loop-lane
invariant-loop-lane l = (length l.owners.items ≡ l.lane) × AreNew l.lanes 0 l.owners.items
