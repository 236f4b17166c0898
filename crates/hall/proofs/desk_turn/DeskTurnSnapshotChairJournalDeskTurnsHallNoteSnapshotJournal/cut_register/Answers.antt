use Rattle.std.proofs.Common.{Result, refl, subst, ◌∙◌}
use Rattle.std.specs.Result.{is_ok}
use Rattle.std.specs.declared.alloc.AllocError.{AllocError}
use Rattle.flush_journal.specs.Batches.{records}
use Rattle.hall.specs.ArrayMachines.{lanes_in, start_of}
use Rattle.hall.specs.Cutting.{HasCutCatalogue}
use Rattle.hall.proofs.DeskTurnLemmas.{drawn_stays, holds_now, in_turn_cut_register, takes_register_cut}
use Rattle.hall.proofs.desk_turn.DeskTurnSnapshotChairJournalDeskTurnsHallNoteSnapshotJournal.cut_register.Goals as goal

pub returns-in-Ok-clause-cut : goal.returns-in-Ok-clause-cut
returns-in-Ok-clause-cut g c =
    let self = c.args.self.now in
    let start = start_of self.hall.now.table.shared.key in
    let t = c.requires.ready.2 in
    let place = c.cut_catalogue-places.result.0 in
    let found = subst (λ (r : Result (Unit {0}) AllocError). HasCutCatalogue start place (is_ok r) (records c.args.into.now)
    (records c.cut_catalogue-places.new.into) self.seat.now.me.0 c.cut_catalogue-places.new.seat.me.0) c.in-Ok.is c.cut_catalogue-places.ensures.cut in (
      place,
      takes_register_cut start (c.lists_are_histories.ensures (lanes_in start)) place _ _ _ _ _ t.pass.begun found (holds_now start t c.requires.passed)
          (c.cuts_tell_the_register.ensures.write (lanes_in start)),
      refl,
    )

pub returns-in-Ok-clause-drawn : goal.returns-in-Ok-clause-drawn
returns-in-Ok-clause-drawn g c =
    let start = start_of c.args.self.now.hall.now.table.shared.key in
    drawn_stays start c.requires.ready.2 c.requires.passed c.cut_catalogue-places.ensures.cut.turn

pub returns-in-Ok-clause-ready : goal.returns-in-Ok-clause-ready
returns-in-Ok-clause-ready g c =
    let start = start_of c.args.self.now.hall.now.table.shared.key in
    let cut = c.cut_catalogue-places.ensures in (
      cut.table.0 ∙ c.requires.ready.0,
      cut.slots ∙ c.requires.ready.1,
      in_turn_cut_register start c.requires.ready.2 c.requires.passed cut.cut.turn,
    )

pub returns-in-Err-clause-cut : goal.returns-in-Err-clause-cut
returns-in-Err-clause-cut g c =
    let self = c.args.self.now in
    let start = start_of self.hall.now.table.shared.key in
    let t = c.requires.ready.2 in
    let place = c.cut_catalogue-places.result.0 in
    let found = subst (λ (r : Result (Unit {0}) AllocError). HasCutCatalogue start place (is_ok r) (records c.args.into.now)
    (records c.cut_catalogue-places.new.into) self.seat.now.me.0 c.cut_catalogue-places.new.seat.me.0) c.in-Err.is c.cut_catalogue-places.ensures.cut in (
      place,
      takes_register_cut start (c.lists_are_histories.ensures (lanes_in start)) place _ _ _ _ _ t.pass.begun found (holds_now start t c.requires.passed)
          (c.cuts_tell_the_register.ensures.write (lanes_in start)),
      tt,
    )

pub returns-in-Err-clause-drawn : goal.returns-in-Err-clause-drawn
returns-in-Err-clause-drawn g c =
    let start = start_of c.args.self.now.hall.now.table.shared.key in
    drawn_stays start c.requires.ready.2 c.requires.passed c.cut_catalogue-places.ensures.cut.turn

pub returns-in-Err-clause-ready : goal.returns-in-Err-clause-ready
returns-in-Err-clause-ready g c =
    let start = start_of c.args.self.now.hall.now.table.shared.key in
    let cut = c.cut_catalogue-places.ensures in (
      cut.table.0 ∙ c.requires.ready.0,
      cut.slots ∙ c.requires.ready.1,
      in_turn_cut_register start c.requires.ready.2 c.requires.passed cut.cut.turn,
    )
