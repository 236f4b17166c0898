use Rattle.std.proofs.Common.{◌≡◌, ◌+◌, ◌∷◌, List, Option, Some, sym, ap, subst, ◌∙◌}
use Rattle.register.specs.declared.tickets.Turn.{Turn}
use Rattle.service_histories.specs.Tellings.{opening}
use Rattle.hall.specs.Answers.{ArrayView}
use Rattle.hall.specs.ArrayMachines.{lanes_in, start_of}
use Rattle.hall.specs.DeskTurns.{IsInTurn, last_drawn}
use Rattle.hall.specs.Notes.{world_known}
use Rattle.hall.proofs.DeskTurnLemmas.{in_turn_cut, last_stays, may_cut_now, none_behind, takes_now}
use Rattle.hall.proofs.desk_turn.DeskTurnSnapshotChairJournalDeskTurnsHallNoteSnapshotJournal.cut_lane.Goals as goal

pub cut_owner-cut-requires-clause-may : goal.cut_owner-cut-requires-clause-may
cut_owner-cut-requires-clause-may g c =
    let self = c.args.self.now in
    let start = start_of self.hall.now.table.shared.key in
    let held : self.tickets.now ≡ Some (c.in-Some-next.turn ∷ c.next.new.self) = sym c.take.ensures.value ∙ c.in-Some.is ∙ ap Some c.in-Some-next.ensures in
    let t = subst (λ (ts : Option (List Turn)). IsInTurn start self.first.value.me.0 self.seat.now.me.0 self.lanes self.lane ts) held c.requires.ready.2 in
    let last = last_drawn self.seat.now.me.0.seen.register in
    (last.0, last.1, may_cut_now start t (c.each_lane_is_served.ensures (lanes_in start)))

pub some_left-left-requires-clause-none : goal.some_left-left-requires-clause-none
some_left-left-requires-clause-none g c =
    let self = c.args.self.now in
    let start = start_of self.hall.now.table.shared.key in
    let held : self.tickets.now ≡ Some (c.in-Some-next.turn ∷ c.next.new.self) = sym c.take.ensures.value ∙ c.in-Some.is ∙ ap Some c.in-Some-next.ensures in
    let t = subst (λ (ts : Option (List Turn)). IsInTurn start self.first.value.me.0 self.seat.now.me.0 self.lanes self.lane ts) held c.requires.ready.2 in
    none_behind start t (c.each_lane_is_served.ensures (lanes_in start))

pub returns-clause-cut : goal.returns-clause-cut
returns-clause-cut g c =
    let self = c.args.self.now in
    let start = start_of self.hall.now.table.shared.key in
    let held : self.tickets.now ≡ Some (c.in-Some-next.turn ∷ c.next.new.self) = sym c.take.ensures.value ∙ c.in-Some.is ∙ ap Some c.in-Some-next.ensures in
    let t = subst (λ (ts : Option (List Turn)). IsInTurn start self.first.value.me.0 self.seat.now.me.0 self.lanes self.lane ts) held c.requires.ready.2 in
    let each = c.each_lane_is_served.ensures (lanes_in start) in
    takes_now start t each (c.cut_owner-cut.ensures.cut _ _ (may_cut_now start t each)) (c.lists_are_histories.ensures (lanes_in start))
    (c.cuts_tell_the_lane.ensures.write (lanes_in start))

pub returns-clause-start : goal.returns-clause-start
returns-clause-start g c =
    let self = c.args.self.now in
    let start = start_of self.hall.now.table.shared.key in
    let held : self.tickets.now ≡ Some (c.in-Some-next.turn ∷ c.next.new.self) = sym c.take.ensures.value ∙ c.in-Some.is ∙ ap Some c.in-Some-next.ensures in
    let t = subst (λ (ts : Option (List Turn)). IsInTurn start self.first.value.me.0 self.seat.now.me.0 self.lanes self.lane ts) held c.requires.ready.2 in
    let each = c.each_lane_is_served.ensures (lanes_in start) in
    let cut = c.cut_owner-cut.ensures.cut _ _ (may_cut_now start t each) in
    ap (λ (x : ArrayView _). opening (lanes_in start) (world_known x.start)) cut.turn.turned.is

pub returns-clause-drawn : goal.returns-clause-drawn
returns-clause-drawn g c =
    let self = c.args.self.now in
    let start = start_of self.hall.now.table.shared.key in
    let held : self.tickets.now ≡ Some (c.in-Some-next.turn ∷ c.next.new.self) = sym c.take.ensures.value ∙ c.in-Some.is ∙ ap Some c.in-Some-next.ensures in
    let t = subst (λ (ts : Option (List Turn)). IsInTurn start self.first.value.me.0 self.seat.now.me.0 self.lanes self.lane ts) held c.requires.ready.2 in
    let each = c.each_lane_is_served.ensures (lanes_in start) in
    last_stays start t each (c.cut_owner-cut.ensures.cut _ _ (may_cut_now start t each))

pub returns-clause-ready : goal.returns-clause-ready
returns-clause-ready g c =
    let self = c.args.self.now in
    let start = start_of self.hall.now.table.shared.key in
    let held : self.tickets.now ≡ Some (c.in-Some-next.turn ∷ c.next.new.self) = sym c.take.ensures.value ∙ c.in-Some.is ∙ ap Some c.in-Some-next.ensures in
    let t = subst (λ (ts : Option (List Turn)). IsInTurn start self.first.value.me.0 self.seat.now.me.0 self.lanes self.lane ts) held c.requires.ready.2 in
    let each = c.each_lane_is_served.ensures (lanes_in start) in
    let left = c.some_left-left in (
      c.cut_owner-cut.ensures.table.0 ∙ c.requires.ready.0,
      c.cut_owner-cut.ensures.slots ∙ c.requires.ready.1,
      subst (λ (ts : Option (List Turn)). IsInTurn start self.first.value.me.0 c.cut_owner-cut.new.seat.me.0 self.lanes (self.lane + 1) ts)
          (sym c.replace.ensures.after)
          (in_turn_cut start t each (c.cut_owner-cut.ensures.cut _ _ (may_cut_now start t each)) left.result left.ensures.some left.ensures.none),
    )
