use Rattle.std.proofs.Common.{Option, sym, subst, ◌∙◌}
use Rattle.register.specs.declared.tickets.Turn.{Turn}
use Rattle.std.proofs.Common.{List}
use Rattle.hall.specs.ArrayMachines.{lanes_in, start_of}
use Rattle.hall.specs.DeskTurns.{IsInTurn}
use Rattle.hall.proofs.DeskTurnLemmas.{drawn_place, draws_cut, holds_now, in_turn_drawn}
use Rattle.hall.proofs.desk_turn.DeskTurnSnapshotChairJournalDeskTurnsHallNoteSnapshotJournal.draw_cut.Goals as goal

pub returns-clause-cut : goal.returns-clause-cut
returns-clause-cut g c =
    let start = start_of c.args.self.now.hall.now.table.shared.key in
    let t = c.requires.ready.2 in
    draws_cut start (c.lists_are_histories.ensures (lanes_in start)) _ _ _ t.pass.begun c.draw_cut-places.ensures.drawn.cut
    (holds_now start t c.requires.passed)

pub returns-clause-places : goal.returns-clause-places
returns-clause-places g c =
    let start = start_of c.args.self.now.hall.now.table.shared.key in
    drawn_place start (c.lists_are_histories.ensures (lanes_in start)) _ _ _ c.draw_cut-places.ensures.drawn.cut

pub returns-clause-ready : goal.returns-clause-ready
returns-clause-ready g c =
    let self = c.args.self.now in
    let start = start_of self.hall.now.table.shared.key in
    let drew = c.draw_cut-places.ensures in (
      drew.table.0 ∙ c.requires.ready.0,
      drew.slots ∙ c.requires.ready.1,
      subst (λ (ts : Option (List Turn)). IsInTurn start self.first.value.me.0 c.draw_cut-places.new.seat.me.0 self.lanes 0 ts)
          (sym c.replace.ensures.after)
          (in_turn_drawn start c.requires.ready.2 c.requires.passed drew.drawn (c.each_lane_is_served.ensures (lanes_in start))),
    )
