use Rattle.std.proofs.Common.{◌≡◌, drop}
use Rattle.chunk_owner.specs.Owners.Records.{AreUndropped}
use Rattle.service_core.specs.Records.{WorldStillSays}
use Rattle.service_core.specs.Worlds.{seen}
use Rattle.service_core.specs.Journals.Groups.{MayHaveGroups, with_groups}
use Rattle.service_core.proofs.journals.first_world.put_groups.Given as goal

-- what is left may be put, and once it is all are
abbrev pub invariant-loop-id : goal.invariant-loop-id
invariant-loop-id l =
    (with_groups (seen l.world) (drop l.id-index l.ids) ≡ with_groups (seen l.fn.world) l.ids)
    × MayHaveGroups (seen l.world) (drop l.id-index l.ids)
    × WorldStillSays l.fn.world l.world
    × (AreUndropped l.fn.world.lanes → AreUndropped l.world.lanes)
