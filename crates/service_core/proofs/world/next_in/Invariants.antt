use Rattle.std.proofs.Common.{take}
use Rattle.std.specs.Option.{option_copied}
use Rattle.containers.specs.TextMaps.Nexts.{IsNext}
use Rattle.chunk_owner.specs.Owners.Joined.{whole}
use Rattle.service_core.proofs.world.next_in.Given as goal

abbrev pub invariant-loop-owner : goal.invariant-loop-owner
invariant-loop-owner l = IsNext (whole (take l.owner-index l.owners)) (option_copied l.after) l.least
