use Rattle.std.proofs.Common.{take}
use Rattle.std.specs.List.{AllByRecursion}
use Rattle.chunk_owner.specs.Lanes.{AreWholeObjects}
use Rattle.chunk_owner.specs.Owners.Joined.{whole}
use Rattle.chunk_owner.proofs.OfOwners.HoldingLemmas.{IsTold}
use Rattle.chunk_owner.proofs.owners.holding.are_described.Given as goal

abbrev pub invariant-loop-owner : goal.invariant-loop-owner
invariant-loop-owner l = AllByRecursion IsTold (take l.owner-index l.owners) × AreWholeObjects (whole (take l.owner-index l.owners))
