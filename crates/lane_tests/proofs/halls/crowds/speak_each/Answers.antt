use denote.Param.Send.{sendable}
use Rattle.std.proofs.Crossing.{crosses, frees}
use Rattle.std.proofs.alloc.Global.TheSendSync as heap
use Rattle.atomic_table.proofs.send_lease.SendLease.TheSendSync as lease
use Rattle.atomic_table.proofs.shared.Seat.TheSendSync as seat
use Rattle.atomic_table.proofs.shared.Shared.TheSendSync as shared
use Rattle.hall_rule.proofs.Sent as rule
use Rattle.hall.proofs.Sent.{desk_send as noted_send, owner_send, owner_sync, owners_sync, register_send}
use Rattle.rest_session.proofs.OfHalls.Sent.{desk_send}
use Rattle.lane_tests.proofs.halls.crowds.speak_each.Goals as goal

pub for_each_mut-requires-send-T : goal.for_each_mut-requires-send-T
for_each_mut-requires-send-T g c κs within =
    search (sendable, crosses, seat.the_send, rule.slot_send, register_send, owner_send, desk_send, noted_send) depth 40 fits 5000

pub for_each_mut-requires-sync-F : goal.for_each_mut-requires-sync-F
for_each_mut-requires-sync-F g c κs within =
    let r = c.type_bounds.sync-R in
    search (sendable, crosses, frees, heap.the_send, rule.slot_send, register_send, owner_send, owner_sync, owners_sync, desk_send, noted_send, lease.the_sync, shared.the_sync) depth 40 fits 5000
