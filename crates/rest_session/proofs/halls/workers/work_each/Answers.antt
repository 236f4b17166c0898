use denote.Param.Send.{sendable}
use Rattle.std.proofs.Crossing.{crosses, frees}
use Rattle.std.proofs.alloc.Global.TheSendSync as heap
use Rattle.atomic_table.proofs.send_lease.SendLease.TheSendSync as lease
use Rattle.atomic_table.proofs.shared.Seat.TheSendSync as seat
use Rattle.atomic_table.proofs.shared.Shared.TheSendSync as shared
use Rattle.hall_rule.proofs.Sent as rule
use Rattle.hall.proofs.Sent.{desk_send as noted_send, owner_send, owner_sync, owners_sync, register_send}
use Rattle.rest_session.specs.Halls.Visits.{telling}
use Rattle.rest_session.specs.Halls.Workers.{HasWorked}
use Rattle.rest_session.proofs.OfHalls.Lists.{each_left}
use Rattle.rest_session.proofs.OfHalls.Sent.{desk_send, tokens_sync}
use Rattle.rest_session.proofs.halls.workers.work_each.Goals as goal

pub for_each_mut-requires-send-T : goal.for_each_mut-requires-send-T
for_each_mut-requires-send-T g c κs within =
    let d = desk_send _ g.D.Disk c.type_bounds.send-D in
    let f = c.type_bounds.send-F in
    let q = c.type_bounds.send-G in
    search (sendable, crosses, seat.the_send, rule.slot_send, register_send, owner_send, noted_send) depth 40 fits 5000

pub for_each_mut-requires-sync-F : goal.for_each_mut-requires-sync-F
for_each_mut-requires-sync-F g c κs within =
    let d = desk_send _ g.D.Disk c.type_bounds.send-D in
    let r = c.type_bounds.sync-R in
    search (sendable, crosses, frees, heap.the_send, rule.slot_send, register_send, owner_send, owner_sync, owners_sync, noted_send, lease.the_sync, shared.the_sync, tokens_sync) depth 40 fits 5000

pub returns : goal.returns
returns g c =
    each_left _ _ (HasWorked (telling g.F.Door g.F.Link.Source g.F.Link.Sink) g.G.Gate.goes c.args.tokens.now c.args.links c.args.hall.now) _ _
    c.for_each_mut.ensures (λ i p q worked. worked)
