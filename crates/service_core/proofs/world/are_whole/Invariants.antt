use Rattle.std.proofs.Common.{take}
use Rattle.chunk_owner.specs.Lanes.{AreOfKind, AreShown}
use Rattle.chunk_owner.specs.Owners.Joined.{whole}
use Rattle.service_core.proofs.world.are_whole.Given as goal

abbrev pub invariant-loop-owner : goal.invariant-loop-owner
invariant-loop-owner l = AreOfKind (whole (take l.owner-index l.owners)) × AreShown (whole (take l.owner-index l.owners))
