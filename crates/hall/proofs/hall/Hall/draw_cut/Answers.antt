use Rattle.std.proofs.Common.{refl, sym, ap, ◌∙◌}
use Rattle.atomic_table.specs.Table.{rest}
use Rattle.lane_histories.specs.Histories.{drawn, places}
use Rattle.lane_histories.specs.declared.items.RegisterItem.TheVariants.{DrawnCut}
use Rattle.hall_rule.specs.Seen.{at_register}
use Rattle.hall_rule.specs.declared.slot.Slot.TheVariants.{Away}
use Rattle.hall.specs.ArrayMachines.{lanes_in, start_of}
use Rattle.hall.proofs.RegisterLemmas.{in_hand_again, room_here}
use Rattle.hall.proofs.CuttingLemmas.{drawing_here, drawn_here}
use Rattle.hall.proofs.hall.Hall.draw_cut.Goals as goal

pub wait-requires : goal.wait-requires
wait-requires g c =
    let start = start_of c.args.self.now.table.shared.key in
    let look = (c.the_register_takes_turns.ensures (lanes_in start)).may_look start _ _ _ c.requires.may c.draw_register-mine.ensures.drawn in record {
      table = c.draw_register-mine.ensures.table.0 ∙ c.requires.table;
      may = (c.args.seat.now.me.0.claims, look);
    }

pub into_register_slot-slot-requires : goal.into_register_slot-slot-requires
into_register_slot-slot-requires g c =
    let start = start_of c.args.self.now.table.shared.key in
    let look = (c.the_register_takes_turns.ensures (lanes_in start)).may_look start _ _ _ c.requires.may c.draw_register-mine.ensures.drawn in
    let t = c.wait.ensures.taken _ look in
    let hand = c.hands_hold_what_was_taken.ensures (lanes_in start) _ 0 0 _ _ _ t.is refl in
    let d = (c.machines_stand_for_their_lists.ensures (lanes_in start)).register start _ _ _ _ t in
    (d.0, hand.read _ c.exchange.ensures.2 ∙ d.1)

pub exchange-requires-2 : goal.exchange-requires-2
exchange-requires-2 g c = (
  c.exchange.ensures.0 ∙ c.wait.ensures.table.0 ∙ c.draw_register-mine.ensures.table.0 ∙ c.requires.table,
  (Away, in_hand_again _ _ 0 Away (ap (λ me. me.1) c.exchange.ensures.3)),
)

pub returns-clause-slots : goal.returns-clause-slots
returns-clause-slots g c =
    let start = start_of c.args.self.now.table.shared.key in
    let look = (c.the_register_takes_turns.ensures (lanes_in start)).may_look start _ _ _ c.requires.may c.draw_register-mine.ensures.drawn in
    let t = c.wait.ensures.taken _ look in
    let hand = c.hands_hold_what_was_taken.ensures (lanes_in start) _ 0 0 _ _ _ t.is refl in
    let back = hand.swapped _ _ _ _ _ c.exchange.ensures.2 c.exchange.ensures.3 c.exchange-2.ensures.3 in
    c.leave.ensures.slots ∙ ap (λ me. rest me.1) back ∙ c.draw_register-mine.ensures.slots

pub draw_cut-tickets-requires : goal.draw_cut-tickets-requires
draw_cut-tickets-requires g c =
    let start = start_of c.args.self.now.table.shared.key in
    let look = (c.the_register_takes_turns.ensures (lanes_in start)).may_look start _ _ _ c.requires.may c.draw_register-mine.ensures.drawn in
    let t = c.wait.ensures.taken _ look in
    let hand = c.hands_hold_what_was_taken.ensures (lanes_in start) _ 0 0 _ _ _ t.is refl in
    room_here g.D.AtDesk start c.requires.opened (c.machines_stand_for_their_lists.ensures (lanes_in start)) _ _ _ _ t c.into_register_slot-slot.result
    (sym (hand.read _ c.exchange.ensures.2) ∙ c.into_register_slot-slot.ensures) (c.the_register_counts.ensures.room (lanes_in start))

pub leave-requires-clause-ready : goal.leave-requires-clause-ready
leave-requires-clause-ready g c =
    let start = start_of c.args.self.now.table.shared.key in
    let v = c.args.seat.now.me.0 in
    let turns = c.the_register_takes_turns.ensures (lanes_in start) in
    let look = turns.may_look start _ _ _ c.requires.may c.draw_register-mine.ensures.drawn in
    let t = c.wait.ensures.taken _ look in
    let hand = c.hands_hold_what_was_taken.ensures (lanes_in start) _ 0 0 _ _ _ t.is refl in
    let here = sym (hand.read _ c.exchange.ensures.2) ∙ c.into_register_slot-slot.ensures in
    let laws = turns.turn start _ v _ _ _ c.into_register_slot-slot.result _ c.requires.may c.draw_register-mine.ensures.drawn t here
    (hand.swapped _ _ _ _ _ c.exchange.ensures.2 c.exchange.ensures.3 c.exchange-2.ensures.3) in
    let stand = c.machines_stand_for_their_lists.ensures (lanes_in start) in
    let counts = c.the_register_counts.ensures.counts (lanes_in start) in
    let leave = c.calls_are_events.ensures.cut (lanes_in start) in (
      at_register (DrawnCut (drawn t.seen.register) (places t.seen.register)),
      refl,
      drawing_here g.D.AtDesk start c.requires.opened stand _ _ _ _ t c.into_register_slot-slot.result here counts leave v _
          c.draw_cut-tickets.new.self laws c.requires.desk c.draw_cut-tickets.ensures.counted
          (λ k since held told. c.draw_cut-tickets.ensures.says held (since held told)),
    )

pub returns-clause-drawn : goal.returns-clause-drawn
returns-clause-drawn g c =
    let start = start_of c.args.self.now.table.shared.key in
    let v = c.args.seat.now.me.0 in
    let turns = c.the_register_takes_turns.ensures (lanes_in start) in
    let look = turns.may_look start _ _ _ c.requires.may c.draw_register-mine.ensures.drawn in
    let t = c.wait.ensures.taken _ look in
    let hand = c.hands_hold_what_was_taken.ensures (lanes_in start) _ 0 0 _ _ _ t.is refl in
    let here = sym (hand.read _ c.exchange.ensures.2) ∙ c.into_register_slot-slot.ensures in
    let laws = turns.turn start _ v _ _ _ c.into_register_slot-slot.result _ c.requires.may c.draw_register-mine.ensures.drawn t here
    (hand.swapped _ _ _ _ _ c.exchange.ensures.2 c.exchange.ensures.3 c.exchange-2.ensures.3) in
    let stand = c.machines_stand_for_their_lists.ensures (lanes_in start) in
    let counts = c.the_register_counts.ensures.counts (lanes_in start) in
    let leave = c.calls_are_events.ensures.cut (lanes_in start) in
    let ready = drawing_here g.D.AtDesk start c.requires.opened stand _ _ _ _ t c.into_register_slot-slot.result here counts leave v _
    c.draw_cut-tickets.new.self laws c.requires.desk c.draw_cut-tickets.ensures.counted
    (λ k since held told. c.draw_cut-tickets.ensures.says held (since held told)) in
    drawn_here g.D.AtDesk start c.requires.opened stand _ _ _ _ t c.into_register_slot-slot.result here counts leave v _
    c.draw_cut-tickets.new.self laws c.places-place.result c.places-place.ensures c.leave.new.seat.me.0
    (c.leave.ensures.passed (at_register (DrawnCut (drawn t.seen.register) (places t.seen.register))) ready)
    c.draw_cut-tickets.result c.draw_cut-tickets.ensures.turns
