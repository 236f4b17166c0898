use denote.Param.Send.{sendable}
use Rattle.std.proofs.Crossing.{crosses}
use Rattle.atomic_table.proofs.shared.Seat.TheSendSync as seat
use Rattle.hall_rule.proofs.Sent as rule
use Rattle.hall.proofs.Sent.{desk_send, owner_send, register_send}
use Rattle.hall.proofs.sending.pass_is_sent.Goals as goal

pub is_sent-requires-send-T : goal.is_sent-requires-send-T
is_sent-requires-send-T g c κs =
    let d = c.type_bounds.send-D in
    search (sendable, crosses, seat.the_send, rule.slot_send, register_send, owner_send, desk_send) depth 40 fits 5000
