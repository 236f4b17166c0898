use Rattle.std.proofs.Common.{◌≡◌, refl, sym, ap, subst, ◌∙◌}
use Rattle.atomic_table.specs.Table.{rest}
use Rattle.lane_histories.specs.declared.items.RegisterItem.TheVariants.{Entered}
use Rattle.hall_rule.specs.Seen.{at_register}
use Rattle.hall_rule.specs.WholeTurns.{HasDecided, entry_behind}
use Rattle.hall_rule.specs.declared.slot.Slot.TheVariants.{Away}
use Rattle.register.specs.declared.verdicts.Verdict.{Verdict}
use Rattle.service_histories.specs.ArrayServices.{Asked}
use Rattle.hall.specs.Answers.{asked_by}
use Rattle.hall.specs.ArrayMachines.{lanes_in, machines, start_of}
use Rattle.hall.proofs.RegisterLemmas.{decided_here, decides_as, decision_here, in_hand_again, issue_as, room_here}
use Rattle.hall.proofs.hall.Hall.decide.Goals as goal

pub wait-requires : goal.wait-requires
wait-requires g c =
    let start = start_of c.args.self.now.table.shared.key in
    let look = (c.the_register_takes_turns.ensures (lanes_in start)).may_look start _ _ _ c.requires.may c.draw_register-mine.ensures.drawn in record {
      table = c.draw_register-mine.ensures.table.0 ∙ c.requires.table;
      may = (c.args.seat.now.me.0.claims, look);
    }

pub into_register_slot-slot-requires : goal.into_register_slot-slot-requires
into_register_slot-slot-requires g c =
    let start = start_of c.args.self.now.table.shared.key in
    let look = (c.the_register_takes_turns.ensures (lanes_in start)).may_look start _ _ _ c.requires.may c.draw_register-mine.ensures.drawn in
    let t = c.wait.ensures.taken _ look in
    let hand = c.hands_hold_what_was_taken.ensures (lanes_in start) _ 0 0 _ _ _ t.is refl in
    let d = (c.machines_stand_for_their_lists.ensures (lanes_in start)).register start _ _ _ _ t in
    (d.0, hand.read _ c.exchange.ensures.2 ∙ d.1)

pub decide-verdict-requires : goal.decide-verdict-requires
decide-verdict-requires g c =
    let start = start_of c.args.self.now.table.shared.key in
    let look = (c.the_register_takes_turns.ensures (lanes_in start)).may_look start _ _ _ c.requires.may c.draw_register-mine.ensures.drawn in
    let t = c.wait.ensures.taken _ look in
    let hand = c.hands_hold_what_was_taken.ensures (lanes_in start) _ 0 0 _ _ _ t.is refl in
    room_here g.D.AtDesk start c.requires.opened (c.machines_stand_for_their_lists.ensures (lanes_in start)) _ _ _ _ t c.into_register_slot-slot.result
    (sym (hand.read _ c.exchange.ensures.2) ∙ c.into_register_slot-slot.ensures) (c.the_register_counts.ensures.room (lanes_in start))

pub exchange-requires-2 : goal.exchange-requires-2
exchange-requires-2 g c = (
  c.exchange.ensures.0 ∙ c.wait.ensures.table.0 ∙ c.draw_register-mine.ensures.table.0 ∙ c.requires.table,
  (Away, in_hand_again _ _ 0 Away (ap (λ me. me.1) c.exchange.ensures.3)),
)

pub leave-requires-clause-ready : goal.leave-requires-clause-ready
leave-requires-clause-ready g c =
    let start = start_of c.args.self.now.table.shared.key in
    let v = c.args.seat.now.me.0 in
    let turns = c.the_register_takes_turns.ensures (lanes_in start) in
    let look = turns.may_look start _ _ _ c.requires.may c.draw_register-mine.ensures.drawn in
    let t = c.wait.ensures.taken _ look in
    let hand = c.hands_hold_what_was_taken.ensures (lanes_in start) _ 0 0 _ _ _ t.is refl in
    let here = sym (hand.read _ c.exchange.ensures.2) ∙ c.into_register_slot-slot.ensures in
    let asked : c.of-3.result.value ≡ asked_by c.args.caller.now c.args.request.now =
    c.of-3.ensures ∙ (λ i. (record { marker = record {}; value = c.of.ensures i }, record { marker = record {}; value = c.of-2.ensures i })) in
    let laws = turns.turn start _ v _ _ _ c.into_register_slot-slot.result _ c.requires.may c.draw_register-mine.ensures.drawn t here
    (hand.swapped _ _ _ _ _ c.exchange.ensures.2 c.exchange.ensures.3 c.exchange-2.ensures.3) in (
      at_register (Entered (entry_behind t.seen.register v.number c.of-3.result.value c.of-4.result.value)),
      refl,
      decision_here g.D.AtDesk start c.requires.opened (c.machines_stand_for_their_lists.ensures (lanes_in start)) _ _ _ _ t c.into_register_slot-slot.result here
          (c.the_register_counts.ensures.counts (lanes_in start)) c.calls_are_events.ensures.decision v _ c.of-3.result c.of-4.result c.decide-verdict.new.self laws
          (decides_as _ _ _ _ _ _ _ asked c.of-4.ensures c.decide-verdict.ensures.decides) (issue_as _ _ _ _ _ _ asked c.of-4.ensures c.decide-verdict.ensures.issue)
          (λ k since held told. c.decide-verdict.ensures.says held (since held told)),
    )

pub returns-clause-slots : goal.returns-clause-slots
returns-clause-slots g c =
    let start = start_of c.args.self.now.table.shared.key in
    let look = (c.the_register_takes_turns.ensures (lanes_in start)).may_look start _ _ _ c.requires.may c.draw_register-mine.ensures.drawn in
    let t = c.wait.ensures.taken _ look in
    let hand = c.hands_hold_what_was_taken.ensures (lanes_in start) _ 0 0 _ _ _ t.is refl in
    let back = hand.swapped _ _ _ _ _ c.exchange.ensures.2 c.exchange.ensures.3 c.exchange-2.ensures.3 in
    c.leave.ensures.slots ∙ ap (λ me. rest me.1) back ∙ c.draw_register-mine.ensures.slots

pub returns-clause-decided : goal.returns-clause-decided
returns-clause-decided g c =
    let start = start_of c.args.self.now.table.shared.key in
    let v = c.args.seat.now.me.0 in
    let turns = c.the_register_takes_turns.ensures (lanes_in start) in
    let look = turns.may_look start _ _ _ c.requires.may c.draw_register-mine.ensures.drawn in
    let t = c.wait.ensures.taken _ look in
    let hand = c.hands_hold_what_was_taken.ensures (lanes_in start) _ 0 0 _ _ _ t.is refl in
    let here = sym (hand.read _ c.exchange.ensures.2) ∙ c.into_register_slot-slot.ensures in
    let asked : c.of-3.result.value ≡ asked_by c.args.caller.now c.args.request.now =
    c.of-3.ensures ∙ (λ i. (record { marker = record {}; value = c.of.ensures i }, record { marker = record {}; value = c.of-2.ensures i })) in
    let laws = turns.turn start _ v _ _ _ c.into_register_slot-slot.result _ c.requires.may c.draw_register-mine.ensures.drawn t here
    (hand.swapped _ _ _ _ _ c.exchange.ensures.2 c.exchange.ensures.3 c.exchange-2.ensures.3) in
    let stand = c.machines_stand_for_their_lists.ensures (lanes_in start) in
    let counts = c.the_register_counts.ensures.counts (lanes_in start) in
    let decides = decides_as _ _ _ _ _ _ _ asked c.of-4.ensures c.decide-verdict.ensures.decides in
    let ready = decision_here g.D.AtDesk start c.requires.opened stand _ _ _ _ t c.into_register_slot-slot.result here counts c.calls_are_events.ensures.decision v _ c.of-3.result c.of-4.result c.decide-verdict.new.self laws
    decides (issue_as _ _ _ _ _ _ asked c.of-4.ensures c.decide-verdict.ensures.issue) (λ k since held told. c.decide-verdict.ensures.says held (since held told)) in
    let passed = c.leave.ensures.passed (at_register (Entered (entry_behind t.seen.register v.number c.of-3.result.value c.of-4.result.value))) ready in
    subst (λ (x : Asked × Verdict). HasDecided (machines (lanes_in start)) start c.places-place.result x.0 x.1 v c.leave.new.seat.me.0) (λ i. (asked i, c.of-4.ensures i))
    (decided_here g.D.AtDesk start c.requires.opened stand _ _ _ _ t c.into_register_slot-slot.result here counts c.calls_are_events.ensures.decision v _ _ c.of-3.result.value c.of-4.result.value _ _ _ _ laws passed c.places-place.ensures decides)
