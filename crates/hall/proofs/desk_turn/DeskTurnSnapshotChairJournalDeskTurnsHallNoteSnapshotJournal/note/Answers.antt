use Rattle.std.proofs.Common.{arith}
use Rattle.hall.specs.ArrayMachines.{lanes_in, start_of}
use Rattle.hall.proofs.desk_turn.DeskTurnSnapshotChairJournalDeskTurnsHallNoteSnapshotJournal.note.Goals as goal

pub split_seat-seat-requires : goal.split_seat-seat-requires
split_seat-seat-requires g c =
    let h = c.args.self.now.hall.now in
    let sized = h.sized.0 in
    let law = c.steps_keep_the_rule.ensures (lanes_in (start_of h.table.shared.key)) in
    (c.requires.ready.0, omega arith, (law.share _ _ _ _).notes)
