use Rattle.std.proofs.Common.{refl, sym, ap, ◌∙◌}
use Rattle.std.specs.Result.{is_ok}
use Rattle.atomic_table.specs.Table.{rest}
use Rattle.lane_histories.specs.Histories.{places}
use Rattle.lane_histories.specs.declared.items.RegisterItem.TheVariants.{RegisterCut}
use Rattle.hall_rule.specs.Seen.{at_register}
use Rattle.hall_rule.specs.declared.slot.Slot.TheVariants.{Away}
use Rattle.hall.specs.ArrayMachines.{lanes_in, start_of}
use Rattle.hall.proofs.RegisterLemmas.{in_hand_again}
use Rattle.hall.proofs.CuttingLemmas.{adds_register, catalogue_cut_here, cutting_here, register_cuts}
use Rattle.hall.proofs.hall.Hall.cut_catalogue.Goals as goal

pub wait-requires : goal.wait-requires
wait-requires g c =
    let start = start_of c.args.self.now.table.shared.key in
    let look = (c.the_register_takes_turns.ensures (lanes_in start)).may_look start _ _ _ c.requires.may c.draw_register-mine.ensures.drawn in record {
      table = c.draw_register-mine.ensures.table.0 ∙ c.requires.table;
      may = (c.args.seat.now.me.0.claims, look);
    }

pub into_register_slot-slot-requires : goal.into_register_slot-slot-requires
into_register_slot-slot-requires g c =
    let start = start_of c.args.self.now.table.shared.key in
    let look = (c.the_register_takes_turns.ensures (lanes_in start)).may_look start _ _ _ c.requires.may c.draw_register-mine.ensures.drawn in
    let t = c.wait.ensures.taken _ look in
    let hand = c.hands_hold_what_was_taken.ensures (lanes_in start) _ 0 0 _ _ _ t.is refl in
    let d = (c.machines_stand_for_their_lists.ensures (lanes_in start)).register start _ _ _ _ t in
    (d.0, hand.read _ c.exchange.ensures.2 ∙ d.1)

pub exchange-requires-2 : goal.exchange-requires-2
exchange-requires-2 g c = (
  c.exchange.ensures.0 ∙ c.wait.ensures.table.0 ∙ c.draw_register-mine.ensures.table.0 ∙ c.requires.table,
  (Away, in_hand_again _ _ 0 Away (ap (λ me. me.1) c.exchange.ensures.3)),
)

pub returns-clause-slots : goal.returns-clause-slots
returns-clause-slots g c =
    let start = start_of c.args.self.now.table.shared.key in
    let look = (c.the_register_takes_turns.ensures (lanes_in start)).may_look start _ _ _ c.requires.may c.draw_register-mine.ensures.drawn in
    let t = c.wait.ensures.taken _ look in
    let hand = c.hands_hold_what_was_taken.ensures (lanes_in start) _ 0 0 _ _ _ t.is refl in
    let back = hand.swapped _ _ _ _ _ c.exchange.ensures.2 c.exchange.ensures.3 c.exchange-2.ensures.3 in
    c.leave.ensures.slots ∙ ap (λ me. rest me.1) back ∙ c.draw_register-mine.ensures.slots

pub leave-requires-clause-ready : goal.leave-requires-clause-ready
leave-requires-clause-ready g c =
    let start = start_of c.args.self.now.table.shared.key in
    let v = c.args.seat.now.me.0 in
    let turns = c.the_register_takes_turns.ensures (lanes_in start) in
    let look = turns.may_look start _ _ _ c.requires.may c.draw_register-mine.ensures.drawn in
    let t = c.wait.ensures.taken _ look in
    let hand = c.hands_hold_what_was_taken.ensures (lanes_in start) _ 0 0 _ _ _ t.is refl in
    let here = sym (hand.read _ c.exchange.ensures.2) ∙ c.into_register_slot-slot.ensures in
    let laws = turns.turn start _ v _ _ _ c.into_register_slot-slot.result _ c.requires.may c.draw_register-mine.ensures.drawn t here
    (hand.swapped _ _ _ _ _ c.exchange.ensures.2 c.exchange.ensures.3 c.exchange-2.ensures.3) in
    let stand = c.machines_stand_for_their_lists.ensures (lanes_in start) in
    let counts = c.the_register_counts.ensures.counts (lanes_in start) in
    let leave = c.calls_are_events.ensures.cut (lanes_in start) in (
      at_register (RegisterCut (places t.seen.register) (is_ok c.cut-cut.result)),
      refl,
      cutting_here g.D.AtDesk start c.requires.opened stand _ _ _ _ t c.into_register_slot-slot.result here counts leave v _
          c.cut-cut.result c.cut-cut.new.self c.cut-cut.ensures.still c.cut-cut.ensures.err c.worlds_open.ensures.register
          c.is_ok.result laws c.is_ok.ensures.value c.requires.desk,
    )

pub returns-clause-cut : goal.returns-clause-cut
returns-clause-cut g c =
    let start = start_of c.args.self.now.table.shared.key in
    let v = c.args.seat.now.me.0 in
    let turns = c.the_register_takes_turns.ensures (lanes_in start) in
    let look = turns.may_look start _ _ _ c.requires.may c.draw_register-mine.ensures.drawn in
    let t = c.wait.ensures.taken _ look in
    let hand = c.hands_hold_what_was_taken.ensures (lanes_in start) _ 0 0 _ _ _ t.is refl in
    let here = sym (hand.read _ c.exchange.ensures.2) ∙ c.into_register_slot-slot.ensures in
    let laws = turns.turn start _ v _ _ _ c.into_register_slot-slot.result _ c.requires.may c.draw_register-mine.ensures.drawn t here
    (hand.swapped _ _ _ _ _ c.exchange.ensures.2 c.exchange.ensures.3 c.exchange-2.ensures.3) in
    let stand = c.machines_stand_for_their_lists.ensures (lanes_in start) in
    let counts = c.the_register_counts.ensures.counts (lanes_in start) in
    let leave = c.calls_are_events.ensures.cut (lanes_in start) in
    let ready = cutting_here g.D.AtDesk start c.requires.opened stand _ _ _ _ t c.into_register_slot-slot.result here counts leave v _
    c.cut-cut.result c.cut-cut.new.self c.cut-cut.ensures.still c.cut-cut.ensures.err c.worlds_open.ensures.register
    c.is_ok.result laws c.is_ok.ensures.value c.requires.desk in
    catalogue_cut_here g.D.AtDesk start c.requires.opened stand _ _ _ _ t c.into_register_slot-slot.result here counts leave v _
    (is_ok c.cut-cut.result) c.is_ok.result c.cut-cut.new.self _ _ laws c.places-place.result c.places-place.ensures c.leave.new.seat.me.0
    (c.leave.ensures.passed (at_register (RegisterCut (places t.seen.register) (is_ok c.cut-cut.result))) ready)
    (adds_register _ _ c.cut-cut.result _ _
    (register_cuts _ _ c.cut-cut.result _ _ c.cut-cut.ensures.cut c.cut-cut.ensures.still c.is_described.ensures c.cuts_tell_the_register.ensures.part)
    c.cut-cut.ensures.err c.cut-cut.ensures.back)
