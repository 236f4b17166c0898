use Rattle.std.proofs.Common.{take}
use Rattle.std.specs.List.{AllByRecursion}
use Rattle.chunk_owner.specs.Lanes.{IsWhole}
use Rattle.chunk_owner.proofs.owners.cuts.are_whole.Given as goal

abbrev pub invariant-loop-owner : goal.invariant-loop-owner
invariant-loop-owner l = AllByRecursion IsWhole (take l.owner-index l.owners)
