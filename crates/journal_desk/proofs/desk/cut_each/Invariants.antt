use Rattle.std.proofs.Common.{◌-◌, ◌≡◌, ◌≤◌}
use Rattle.flush_journal.specs.Batches.{records}
use Rattle.journal_desk.specs.Cuts.{CutsEach}
use Rattle.journal_desk.specs.Notes.{at_lanes}
use Rattle.journal_desk.proofs.desk.cut_each.Given as goal

abbrev pub invariant-loop-lane : goal.invariant-loop-lane
invariant-loop-lane g l =
    let turns = g.T.Turns in
    let note = at_lanes g.N.Note (turns.lanes l.fn.turns) in
    CutsEach note.kept (note.start (turns.seen l.fn.turns)) (note.history (turns.seen l.fn.turns)) (note.history (turns.seen l.turns))
    (note.was (turns.seen l.fn.turns)) (note.was (turns.seen l.turns))
    (turns.drawn l.fn.turns).0 (turns.drawn l.fn.turns).1 l.lane l.whole (records l.fn.building) (records l.building)
    × (note.start (turns.seen l.turns) ≡ note.start (turns.seen l.fn.turns)) × (turns.drawn l.turns ≡ turns.drawn l.fn.turns)
    × (turns.next_lane l.turns ≡ l.lane) × (l.lane ≤ l.lanes) × (l.lanes ≡ note.kept.service.lanes)
    × (turns.lanes l.turns ≡ turns.lanes l.fn.turns) × turns.ready l.turns
    × (turns.fixed l.turns ≡ turns.fixed l.fn.turns)

abbrev pub decreases-loop-lane : goal.decreases-loop-lane
decreases-loop-lane g l = l.lanes - l.lane
