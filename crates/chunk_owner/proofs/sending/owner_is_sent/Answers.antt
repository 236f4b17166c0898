use denote.Param.Send.{sendable}
use Rattle.std.proofs.Crossing.{crosses}
use Rattle.std.proofs.MapsCrossing as maps
use Rattle.chunk_owner.proofs.Sent.{changes_send, slot_send}
use Rattle.chunk_owner.proofs.sending.owner_is_sent.Goals as goal

pub is_sent-requires-send-T : goal.is_sent-requires-send-T
is_sent-requires-send-T c κs = search (sendable, crosses, maps.crosses, slot_send, changes_send) depth 40 fits 5000
