use Rattle.std.proofs.Common.{◌≡◌, ◌+◌, ◌<◌, ◌≤◌, length}
use Rattle.register.specs.Decided.{serial_limit}
use Rattle.service_core.specs.Records.{WorldStillSays}
use Rattle.service_core.specs.Worlds.{seen}
use Rattle.json_import.specs.Adoption.Placing.{placed_each}
use Rattle.json_import.proofs.adoption.adoption.put_others.Given as goal

-- with those that are left, all are put
abbrev pub invariant-loop-others : goal.invariant-loop-others
invariant-loop-others l =
    (placed_each l.number (seen l.world) l.others ≡ placed_each l.number (seen l.fn.world) l.fn.others)
    × (l.number < l.world.register.catalogue.next)
    × WorldStillSays l.fn.world l.world
    × (l.world.register.serial + length l.others ≤ serial_limit)

abbrev pub decreases-loop-others : goal.decreases-loop-others
decreases-loop-others l = length l.others
