use Rattle.std.proofs.Common.{Some, refl, sym, ap, ◌∙◌}
use Rattle.atomic_table.specs.Table.{rest}
use Rattle.object_ops.specs.declared.replies.Reply.{Reply}
use Rattle.chunk_owner.specs.Lanes.{Lane}
use Rattle.hall_rule.specs.declared.slot.LaneNews.TheVariants.{Acts}
use Rattle.hall_rule.specs.declared.slot.LaneSlot.{LaneSlot}
use Rattle.hall_rule.specs.declared.slot.Slot.TheVariants.{AtLane}
use Rattle.lane_histories.specs.declared.items.LaneItem.TheVariants.{Passed}
use Rattle.hall_rule.specs.Seen.{at_lane}
use Rattle.hall_rule.specs.Steps.{others_of}
use Rattle.service_histories.specs.ArrayServices.{task_of}
use Rattle.hall.specs.ArrayMachines.{lanes_in, start_of}
use Rattle.hall.proofs.ActLemmas.{has_acted, in_hand, may_pass, ready_for, took}
use Rattle.hall.proofs.hall.Hall.act.Goals as goal

pub wait-requires-clause-may : goal.wait-requires-clause-may
wait-requires-clause-may g c =
    let start = start_of c.args.self.now.table.shared.key in
    let laws = c.lanes_take_turns.ensures (lanes_in start) in
    let turn = c.args.turn in
    let job = c.args.job.now in
    let first = c.args.seat.now.me.0 in (
      others_of first.claims,
      laws.may_look start turn.lane turn.ticket job.place c.requires.may.0 (task_of job.grant job.op.now turn.step) c.args.skip first
          c.requires.may.1,
    )

pub exchange-requires : goal.exchange-requires
exchange-requires g c =
    let start = start_of c.args.self.now.table.shared.key in
    let laws = c.lanes_take_turns.ensures (lanes_in start) in
    let t = took g.D.AtDesk laws c.requires.may.1 c.wait.ensures.taken in
    let hand = in_hand g.D.AtDesk t (c.hands_hold_what_was_taken.ensures (lanes_in start)) c.slot-home.ensures in
    (c.wait.ensures.table.0 ∙ c.requires.table, hand.there)

pub into_lane_slot-slot-requires : goal.into_lane_slot-slot-requires
into_lane_slot-slot-requires g c =
    let start = start_of c.args.self.now.table.shared.key in
    let laws = c.lanes_take_turns.ensures (lanes_in start) in
    let t = took g.D.AtDesk laws c.requires.may.1 c.wait.ensures.taken in
    let hand = in_hand g.D.AtDesk t (c.hands_hold_what_was_taken.ensures (lanes_in start)) c.slot-home.ensures in
    let turn = c.args.turn in
    let first = c.args.seat.now.me in
    let owner = (c.machines_stand_for_their_lists.ensures (lanes_in start)).owner start turn.lane turn.ticket (others_of first.0.claims) first
    c.wait.new.seat.me t in
    (owner.0, hand.read c.exchange.result c.exchange.ensures.2 ∙ owner.1)

pub perform-outcome-requires-clause-ready : goal.perform-outcome-requires-clause-ready
perform-outcome-requires-clause-ready g c =
    let start = start_of c.args.self.now.table.shared.key in
    let laws = c.lanes_take_turns.ensures (lanes_in start) in
    let t = took g.D.AtDesk laws c.requires.may.1 c.wait.ensures.taken in
    let hand = in_hand g.D.AtDesk t (c.hands_hold_what_was_taken.ensures (lanes_in start)) c.slot-home.ensures in
    let here = sym (hand.read c.exchange.result c.exchange.ensures.2) ∙ c.into_lane_slot-slot.ensures in
    let job = c.args.job.now in
    ready_for g.D.AtDesk t here c.requires.opened laws c.turns_are_ready.ensures.ready c.turns_are_ready.ensures.home job.grant job.op.now c.args.turn.step
    c.requires.may.1

pub leave-requires : goal.leave-requires
leave-requires g c =
    let start = start_of c.args.self.now.table.shared.key in
    let laws = c.lanes_take_turns.ensures (lanes_in start) in
    let t = took g.D.AtDesk laws c.requires.may.1 c.wait.ensures.taken in
    let hand = in_hand g.D.AtDesk t (c.hands_hold_what_was_taken.ensures (lanes_in start)) c.slot-home.ensures in
    let here = sym (hand.read c.exchange.result c.exchange.ensures.2) ∙ c.into_lane_slot-slot.ensures in
    let new : LaneSlot Lane Reply = record { owner = c.perform-outcome.new.owner; news = Some (Acts c.noted.result) } in
    let mine = hand.swapped c.exchange.new.seat.me c.exchange-2.new.seat.me c.exchange.result _ (AtLane new) c.exchange.ensures.2
    c.exchange.ensures.3 c.exchange-2.ensures.3 in
    let did = c.perform-outcome.ensures in
    let marks = c.cuts_tell_the_lane.ensures in
    let turn = c.args.turn in
    let job = c.args.job.now in record {
      table = c.exchange-2.ensures.0 ∙ c.exchange.ensures.0 ∙ c.wait.ensures.table.0 ∙ c.requires.table;
      ready = (
        at_lane turn.lane (Passed job.place c.requires.may.0 (task_of job.grant job.op.now turn.step) c.perform-outcome.result)
            c.perform-outcome.new.owner,
        refl,
        may_pass g.D.AtDesk t here laws mine c.requires.may.1 marks.marks marks.turn c.noted.result refl c.noted.ensures did.did did.skips did.same did.says did.alone,
      );
    }

pub returns : goal.returns
returns g c =
    let start = start_of c.args.self.now.table.shared.key in
    let laws = c.lanes_take_turns.ensures (lanes_in start) in
    let t = took g.D.AtDesk laws c.requires.may.1 c.wait.ensures.taken in
    let hand = in_hand g.D.AtDesk t (c.hands_hold_what_was_taken.ensures (lanes_in start)) c.slot-home.ensures in
    let here = sym (hand.read c.exchange.result c.exchange.ensures.2) ∙ c.into_lane_slot-slot.ensures in
    let new : LaneSlot Lane Reply = record { owner = c.perform-outcome.new.owner; news = Some (Acts c.noted.result) } in
    let mine = hand.swapped c.exchange.new.seat.me c.exchange-2.new.seat.me c.exchange.result _ (AtLane new) c.exchange.ensures.2
    c.exchange.ensures.3 c.exchange-2.ensures.3 in
    let did = c.perform-outcome.ensures in
    let marks = c.cuts_tell_the_lane.ensures in
    record {
      table = (
        c.leave.ensures.table.0 ∙ c.exchange-2.ensures.0 ∙ c.exchange.ensures.0 ∙ c.wait.ensures.table.0,
        c.leave.ensures.table.1 ∙ c.exchange-2.ensures.1 ∙ c.exchange.ensures.1 ∙ c.wait.ensures.table.1,
      );
      slots = c.leave.ensures.slots ∙ ap (λ me. rest me.1) mine;
      acted = λ part may.
          has_acted g.D.AtDesk t here laws mine may
          (c.leave.ensures.passed _
          (may_pass g.D.AtDesk t here laws mine may marks.marks marks.turn c.noted.result refl c.noted.ensures did.did did.skips did.same did.says did.alone));
      gone = c.before-2.ensures;
    }
