use Rattle.std.proofs.Common.{length}
use Rattle.std.specs.FinMap.{entries}
use Rattle.std.specs.Option.{option_copied}
use Rattle.containers.specs.TextMaps.Nexts.{left}
use Rattle.object_ids.specs.IdOrder.{id_order}
use Rattle.chunk_owner.proofs.OfSlots.Standing.{IsPassed}
use Rattle.chunk_owner.proofs.slots.standing.next_id.Given as goal

abbrev pub invariant-loop-id : goal.invariant-loop-id
invariant-loop-id l = IsPassed l.slots (option_copied l.after) l.at

abbrev pub decreases-loop-id : goal.decreases-loop-id
decreases-loop-id l = length (left id_order l.at (entries l.slots))
