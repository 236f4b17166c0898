use Rattle.std.proofs.Common.{Some, refl, sym, ap, ◌∙◌}
use Rattle.std.specs.Result.{is_ok}
use Rattle.atomic_table.specs.Table.{rest}
use Rattle.object_ops.specs.declared.replies.Reply.{Reply}
use Rattle.chunk_owner.specs.Lanes.{Lane}
use Rattle.hall_rule.specs.declared.slot.LaneNews.TheVariants.{Cuts}
use Rattle.hall_rule.specs.declared.slot.LaneSlot.{LaneSlot}
use Rattle.hall_rule.specs.declared.slot.Slot.TheVariants.{AtLane}
use Rattle.lane_histories.specs.declared.items.LaneItem.TheVariants.{WasCut}
use Rattle.hall_rule.specs.Seen.{at_lane}
use Rattle.hall_rule.specs.Steps.{others_of}
use Rattle.hall.specs.ArrayMachines.{lanes_in, start_of}
use Rattle.hall.proofs.ActLemmas.{in_hand}
use Rattle.hall.proofs.CuttingLemmas.{adds_owner, may_pass_cut, owner_cuts, owner_is_cut, owner_of, took_cut}
use Rattle.hall.proofs.hall.Hall.cut_owner.Goals as goal

pub wait-requires-clause-may : goal.wait-requires-clause-may
wait-requires-clause-may g c =
    let start = start_of c.args.self.now.table.shared.key in
    let laws = c.lanes_take_turns.ensures (lanes_in start) in
    let turn = c.args.turn in
    let first = c.args.seat.now.me.0 in
    (others_of first.claims, laws.may_look_cut start turn.lane turn.ticket c.requires.may.0 c.requires.may.1 first c.requires.may.2)

pub exchange-requires : goal.exchange-requires
exchange-requires g c =
    let start = start_of c.args.self.now.table.shared.key in
    let laws = c.lanes_take_turns.ensures (lanes_in start) in
    let t = took_cut g.D.AtDesk laws c.requires.may.2 c.wait.ensures.taken in
    let hand = in_hand g.D.AtDesk t (c.hands_hold_what_was_taken.ensures (lanes_in start)) c.slot-home.ensures in
    (c.wait.ensures.table.0 ∙ c.requires.table, hand.there)

pub into_lane_slot-slot-requires : goal.into_lane_slot-slot-requires
into_lane_slot-slot-requires g c =
    let start = start_of c.args.self.now.table.shared.key in
    let laws = c.lanes_take_turns.ensures (lanes_in start) in
    let t = took_cut g.D.AtDesk laws c.requires.may.2 c.wait.ensures.taken in
    let hand = in_hand g.D.AtDesk t (c.hands_hold_what_was_taken.ensures (lanes_in start)) c.slot-home.ensures in
    let turn = c.args.turn in
    let first = c.args.seat.now.me in
    let owner = (c.machines_stand_for_their_lists.ensures (lanes_in start)).owner start turn.lane turn.ticket (others_of first.0.claims) first
    c.wait.new.seat.me t in
    (owner.0, hand.read c.exchange.result c.exchange.ensures.2 ∙ owner.1)

pub leave-requires : goal.leave-requires
leave-requires g c =
    let start = start_of c.args.self.now.table.shared.key in
    let laws = c.lanes_take_turns.ensures (lanes_in start) in
    let t = took_cut g.D.AtDesk laws c.requires.may.2 c.wait.ensures.taken in
    let hand = in_hand g.D.AtDesk t (c.hands_hold_what_was_taken.ensures (lanes_in start)) c.slot-home.ensures in
    let here = sym (hand.read c.exchange.result c.exchange.ensures.2) ∙ c.into_lane_slot-slot.ensures in
    let new : LaneSlot Lane Reply = record { owner = c.cut-cut.new.self; news = Some (Cuts c.is_ok.result) } in
    let mine = hand.swapped c.exchange.new.seat.me c.exchange-2.new.seat.me c.exchange.result _ (AtLane new) c.exchange.ensures.2
    c.exchange.ensures.3 c.exchange-2.ensures.3 in
    let did = c.cut-cut.ensures in
    let turn = c.args.turn in record {
      table = c.exchange-2.ensures.0 ∙ c.exchange.ensures.0 ∙ c.wait.ensures.table.0 ∙ c.requires.table;
      ready = (
        at_lane turn.lane (WasCut c.requires.may.0 c.requires.may.1 (is_ok c.cut-cut.result)) c.cut-cut.new.self,
        refl,
        may_pass_cut g.D.AtDesk t here laws mine c.requires.may.2 c.cut-cut.result c.is_ok.result refl c.is_ok.ensures.value did.objects did.same did.err did.still,
      );
    }

pub returns : goal.returns
returns g c =
    let start = start_of c.args.self.now.table.shared.key in
    let laws = c.lanes_take_turns.ensures (lanes_in start) in
    let t = took_cut g.D.AtDesk laws c.requires.may.2 c.wait.ensures.taken in
    let hand = in_hand g.D.AtDesk t (c.hands_hold_what_was_taken.ensures (lanes_in start)) c.slot-home.ensures in
    let here = sym (hand.read c.exchange.result c.exchange.ensures.2) ∙ c.into_lane_slot-slot.ensures in
    let new : LaneSlot Lane Reply = record { owner = c.cut-cut.new.self; news = Some (Cuts c.is_ok.result) } in
    let mine = hand.swapped c.exchange.new.seat.me c.exchange-2.new.seat.me c.exchange.result _ (AtLane new) c.exchange.ensures.2
    c.exchange.ensures.3 c.exchange-2.ensures.3 in
    let did = c.cut-cut.ensures in
    let owner = owner_of _ c.is_whole.ensures.own c.is_described.ensures.whole c.is_described.ensures.described in
    let after = owner_of _ c.is_whole-2.ensures.own c.is_described-2.ensures.whole c.is_described-2.ensures.described in
    record {
      table = (
        c.leave.ensures.table.0 ∙ c.exchange-2.ensures.0 ∙ c.exchange.ensures.0 ∙ c.wait.ensures.table.0,
        c.leave.ensures.table.1 ∙ c.exchange-2.ensures.1 ∙ c.exchange.ensures.1 ∙ c.wait.ensures.table.1,
      );
      slots = c.leave.ensures.slots ∙ ap (λ me. rest me.1) mine;
      cut = λ cut place may.
          owner_is_cut g.D.AtDesk t here laws mine may (is_ok c.cut-cut.result) _ _
          (c.leave.ensures.passed _ (may_pass_cut g.D.AtDesk t here laws mine may c.cut-cut.result c.is_ok.result refl c.is_ok.ensures.value did.objects did.same did.err did.still))
          (adds_owner _ _ c.cut-cut.result _ _
          (owner_cuts _ _ c.cut-cut.result _ _ did.cut did.still did.objects did.same owner after) did.err did.back);
    }
