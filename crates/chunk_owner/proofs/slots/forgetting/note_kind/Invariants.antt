use Rattle.std.proofs.Common.{length, Some}
use Rattle.std.specs.FinMap.{entries}
use Rattle.containers.specs.TextMaps.Nexts.{left}
use Rattle.object_ids.specs.IdOrder.{id_order}
use Rattle.chunk_owner.proofs.OfSlots.Noting.{AreNotedTo}
use Rattle.chunk_owner.proofs.slots.forgetting.note_kind.Given as goal

abbrev pub invariant-loop-id : goal.invariant-loop-id
invariant-loop-id l = AreNotedTo l.fn.kind l.number l.slots l.fn.changes l.changes l.last

abbrev pub decreases-loop-id : goal.decreases-loop-id
decreases-loop-id l = length (left id_order (Some l.last) (entries l.slots))
