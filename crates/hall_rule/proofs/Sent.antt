-- What a slot holds may be sent to a thread, where its machines may.
use denote.RattleType.{RattleType}
use denote.Param.Send.{IsSend, sendable}
use Rattle.std.proofs.Crossing.{crosses}
use Rattle.hall_rule.specs.contracts.slot.Slot as slot

pub slot_send : (M N P Q V R : RattleType) → IsSend M → IsSend N → IsSend P → IsSend (slot.the_row M N P Q V R)
slot_send M N P Q V R m n p = search (sendable, crosses) depth 40
