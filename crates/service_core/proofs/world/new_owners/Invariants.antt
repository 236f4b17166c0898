use Rattle.std.proofs.Common.{◌≡◌, length}
use Rattle.std.specs.FinMap.{empty}
use Rattle.chunk_owner.specs.Owners.Joined.{AreLanes, whole}
use Rattle.chunk_owner.specs.Owners.Records.{AreUndropped, LanesSay}
use Rattle.service_core.proofs.world.new_owners.Given as goal

abbrev pub invariant-loop-lane : goal.invariant-loop-lane
invariant-loop-lane l = (length l.owners.items ≡ l.lane) × AreLanes l.lanes 0 l.owners.items × (whole l.owners.items ≡ empty) × LanesSay l.owners.items empty × AreUndropped l.owners.items
