use denote.Param.Send.{sendable}
use Rattle.std.proofs.Crossing.{crosses}
use Rattle.std.proofs.MapsCrossing as maps
use Rattle.chunk_owner.proofs.Sent.{changes_sync, slot_sync}
use Rattle.chunk_owner.proofs.sending.owner_is_shared.Goals as goal

pub is_shared-requires-sync-T : goal.is_shared-requires-sync-T
is_shared-requires-sync-T c κs = search (sendable, crosses, maps.crosses, slot_sync, changes_sync) depth 40 fits 5000
