use denote.Param.Send.{sendable}
use Rattle.std.proofs.Crossing.{crosses, frees}
use Rattle.std.proofs.alloc.Global.TheSendSync as heap
use Rattle.atomic_table.proofs.send_lease.SendLease.TheSendSync as lease
use Rattle.atomic_table.proofs.shared.Shared.TheSendSync as shared
use Rattle.hall_rule.proofs.Sent as rule
use Rattle.hall.proofs.Sent.{desk_send, owner_send, owner_sync, owners_sync, register_send}
use Rattle.hall.proofs.sending.hall_is_shared.Goals as goal

pub is_shared-requires-sync-T : goal.is_shared-requires-sync-T
is_shared-requires-sync-T g c κs =
    let d = c.type_bounds.send-D in
    search (sendable, crosses, frees, heap.the_send, rule.slot_send, register_send, owner_send, owner_sync, owners_sync, desk_send, lease.the_sync, shared.the_sync) depth 40 fits 5000
