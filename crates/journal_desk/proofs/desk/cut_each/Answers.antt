use Rattle.std.proofs.Common.{◌≡◌, ℕ, Bool, refl, ap, sym, ◌∙◌, subst, arith}
use Rattle.std.specs.Result.{is_ok}
use Rattle.flush_journal.specs.Batches.{records}
use Rattle.lane_histories.specs.Services.{World}
use Rattle.journal_desk.specs.Cuts.{CutsEach, TakesCut}
use Rattle.journal_desk.specs.Notes.{at_lanes}
use Rattle.journal_desk.proofs.StepLemmas.{cut_next, cut_none}
use Rattle.journal_desk.proofs.desk.cut_each.Goals as goal

pub loop-lane-init : goal.loop-lane-init
loop-lane-init g c = (cut_none _ _ _ _ _ _ _ c.requires.legal, refl, refl, c.requires.lanes, omega arith, c.lane_count-lanes.ensures, refl, c.requires.ready, refl)

pub cut_lane-requires : goal.cut_lane-requires
cut_lane-requires g c =
    let i = c.loop-lane.invariant in
    let same = ap (λ (m : ℕ). (g.N.Note.kept m).service.lanes) i.6 in
    record { ready = i.7; left = omega (arith, same, i.3, i.5, c.loop-lane-test.true) }

pub loop-lane-preserved : goal.loop-lane-preserved
loop-lane-preserved g c =
    let notes = g.N.Note in
    let turns = g.T.Turns in
    let i = c.loop-lane.invariant in
    let taken = c.cut_lane.ensures in
    let before = turns.seen c.loop-lane.turns in
    let after = turns.seen c.cut_lane.new.self in
    let note = at_lanes notes (turns.lanes c.args.turns.now) in
    let there = subst (λ (m : ℕ). TakesCut (notes.kept m) (notes.start m before) (notes.history m before) (notes.history m after)
    (notes.was m before) (notes.was m after) (turns.next_lane c.loop-lane.turns) (turns.drawn c.loop-lane.turns).0 (turns.drawn c.loop-lane.turns).1
    (is_ok c.cut_lane.result) (records c.loop-lane.building) (records c.cut_lane.new.into)) i.6 taken.cut in
    let start = subst (λ (m : ℕ). notes.start m after ≡ notes.start m before) i.6 taken.start in
    let cut = subst (λ (x : World note.kept.service × (ℕ × ℕ) × ℕ × Bool). TakesCut note.kept x.0
    (note.history before) (note.history after) (note.was before) (note.was after) x.2 x.1.0 x.1.1 x.3
    (records c.loop-lane.building) (records c.cut_lane.new.into)) (λ z. (i.1 z, i.2 z, i.3 z, sym c.is_ok-whole.ensures.value z)) there in (
      cut_next _ _ _ _ _ _ _ _ _ _ _ _ _ _ _ _ i.0 cut,
      start ∙ i.1,
      taken.drawn ∙ i.2,
      omega (arith, taken.lanes, i.3),
      omega (arith, c.loop-lane-test.true),
      i.5,
      taken.same ∙ i.6,
      taken.ready,
      taken.fixed ∙ i.8,
    )

pub returns-clause-cut : goal.returns-clause-cut
returns-clause-cut g c =
    let turns = g.T.Turns in
    let note = at_lanes g.N.Note (turns.lanes c.args.turns.now) in
    let i = c.loop-lane.invariant in
    let all : c.loop-lane.lane ≡ note.kept.service.lanes = omega (arith, i.4, i.5, c.loop-lane-test.false) in
    subst (λ (n : ℕ). CutsEach note.kept (note.start (turns.seen c.args.turns.now)) (note.history (turns.seen c.args.turns.now)) (note.history (turns.seen c.loop-lane.turns))
    (note.was (turns.seen c.args.turns.now)) (note.was (turns.seen c.loop-lane.turns)) (turns.drawn c.args.turns.now).0 (turns.drawn c.args.turns.now).1 n
    c.loop-lane.whole (records c.args.building.now) (records c.loop-lane.building)) all i.0

pub returns-clause-lanes : goal.returns-clause-lanes
returns-clause-lanes g c = let i = c.loop-lane.invariant in omega (arith, i.3, i.4, i.5, c.loop-lane-test.false)

pub returns-clause-start : goal.returns-clause-start
returns-clause-start g c = let i = c.loop-lane.invariant in i.1

pub returns-clause-same : goal.returns-clause-same
returns-clause-same g c = let i = c.loop-lane.invariant in i.6

pub returns-clause-ready : goal.returns-clause-ready
returns-clause-ready g c = let i = c.loop-lane.invariant in i.7

pub returns-clause-fixed : goal.returns-clause-fixed
returns-clause-fixed g c = let i = c.loop-lane.invariant in i.8
