use Rattle.std.proofs.Common.{◌≤◌, ℕ, refl, ap, ◌∙◌, subst, sym}
use Rattle.flush_journal.specs.Standing.{disk_of}
use Rattle.flush_journal.specs.Batches.{records}
use Rattle.lane_histories.specs.Histories.{places}
use Rattle.lane_histories.specs.Legal.{IsLegal}
use Rattle.lane_histories.specs.Services.{World}
use Rattle.journal_desk.specs.Cuts.{CutsLanes}
use Rattle.journal_desk.specs.Notes.{at_lanes}
use Rattle.journal_desk.specs.Standing.{Standing}
use Rattle.journal_desk.specs.Keepings.{IsUpTo}
use Rattle.journal_desk.proofs.AnsweredLemmas.{answered_step}
use Rattle.journal_desk.proofs.ContinueLemmas.{continues_from, noted_up_to}
use Rattle.journal_desk.proofs.TurnLemmas.{continues_grown, lanes_are_cut_over}
use Rattle.journal_desk.proofs.desk.Desk.cut_lanes.Goals as goal

pub invariant_of-self : goal.invariant_of-self
invariant_of-self g c =
    let d = c.self.inside in
    let notes = g.N.Note in
    let note = at_lanes notes d.lanes in
    let seen = g.T.Turns.seen in
    let idle = ap (λ (v : Standing g.row.D.Denot g.row.N.Denot). v.pending) c.self.view_is ∙ c.requires.idle in
    let here = subst (λ (v : Standing g.row.D.Denot g.row.N.Denot). IsUpTo notes v (g.T.Turns.lanes c.args.turns.now) (seen c.args.turns.now)) (sym c.self.view_is)
    c.requires.here in
    let cut = lanes_are_cut_over notes d.lanes d.journal (records d.building) d.cut d.kept d.note c.self.invariant.desk idle (records c.cut_each-whole.new.building) _ _ _
    (seen c.args.turns.now) (seen c.draw_cut-c.new.self) (seen c.cut_each-whole.new.turns) c.note.result _ _ _ here.lanes_are c.draw_cut-c.ensures.same
    c.cut_each-whole.ensures.same here.alike c.draw_cut-c.ensures.cut c.draw_cut-c.ensures.start
    c.draw_cut-c.ensures.was c.cut_each-whole.ensures.cut c.cut_each-whole.ensures.start
    (record { start = c.note.ensures.start; history = c.note.ensures.history; was = c.note.ensures.was }) in
    record {
      desk = cut.short c.if-not-whole.true;
      owes = cut.owes d.since.value c.self.invariant.owes;
      answered = answered_step g.D.Disk note (disk_of d.journal) (disk_of d.at.value) d.kept d.note c.note.result cut.start cut.legal cut.longer
          c.self.invariant.answered cut.keepings;
    }

pub returns-then-not-whole-clause-continues : goal.returns-then-not-whole-clause-continues
returns-then-not-whole-clause-continues g c =
    let d = c.self.inside in
    let notes = g.N.Note in
    let note = at_lanes notes d.lanes in
    let seen = g.T.Turns.seen in
    let idle = ap (λ (v : Standing g.row.D.Denot g.row.N.Denot). v.pending) c.self.view_is ∙ c.requires.idle in
    let here = subst (λ (v : Standing g.row.D.Denot g.row.N.Denot). IsUpTo notes v (g.T.Turns.lanes c.args.turns.now) (seen c.args.turns.now)) (sym c.self.view_is)
    c.requires.here in
    let cut = lanes_are_cut_over notes d.lanes d.journal (records d.building) d.cut d.kept d.note c.self.invariant.desk idle (records c.cut_each-whole.new.building) _ _ _
    (seen c.args.turns.now) (seen c.draw_cut-c.new.self) (seen c.cut_each-whole.new.turns) c.note.result _ _ _ here.lanes_are c.draw_cut-c.ensures.same
    c.cut_each-whole.ensures.same here.alike c.draw_cut-c.ensures.cut c.draw_cut-c.ensures.start
    c.draw_cut-c.ensures.was c.cut_each-whole.ensures.cut c.cut_each-whole.ensures.start
    (record { start = c.note.ensures.start; history = c.note.ensures.history; was = c.note.ensures.was }) in
    continues_from g.D.Disk notes _ _ _ c.self.view_is
    (continues_grown note d.journal (records d.building) d.cut d.kept d.note c.self.invariant.desk c.note.result cut.start cut.legal cut.longer
    (λ honest image left. g.met.D.Disk.only_now _ image honest left) d.lanes _ d.since.value (records c.cut_each-whole.new.building) d.cut)

pub invariant_of-self-2 : goal.invariant_of-self-2
invariant_of-self-2 g c =
    let d = c.self.inside in
    let notes = g.N.Note in
    let note = at_lanes notes d.lanes in
    let seen = g.T.Turns.seen in
    let idle = ap (λ (v : Standing g.row.D.Denot g.row.N.Denot). v.pending) c.self.view_is ∙ c.requires.idle in
    let here = subst (λ (v : Standing g.row.D.Denot g.row.N.Denot). IsUpTo notes v (g.T.Turns.lanes c.args.turns.now) (seen c.args.turns.now)) (sym c.self.view_is)
    c.requires.here in
    let cut = lanes_are_cut_over notes d.lanes d.journal (records d.building) d.cut d.kept d.note c.self.invariant.desk idle (records c.cut_each-whole.new.building) _ _ _
    (seen c.args.turns.now) (seen c.draw_cut-c.new.self) (seen c.cut_each-whole.new.turns) c.note.result _ _ _ here.lanes_are c.draw_cut-c.ensures.same
    c.cut_each-whole.ensures.same here.alike c.draw_cut-c.ensures.cut c.draw_cut-c.ensures.start
    c.draw_cut-c.ensures.was c.cut_each-whole.ensures.cut c.cut_each-whole.ensures.start
    (record { start = c.note.ensures.start; history = c.note.ensures.history; was = c.note.ensures.was }) in
    record {
      desk = rw c.draw_cut-c.ensures.places (cut.well c.if-not-whole.false);
      owes = cut.owes d.since.value c.self.invariant.owes;
      answered = answered_step g.D.Disk note (disk_of d.journal) (disk_of d.at.value) d.kept d.note c.note.result cut.start cut.legal cut.longer
          c.self.invariant.answered cut.keepings;
    }

pub returns-clause-continues : goal.returns-clause-continues
returns-clause-continues g c =
    let d = c.self.inside in
    let notes = g.N.Note in
    let note = at_lanes notes d.lanes in
    let seen = g.T.Turns.seen in
    let idle = ap (λ (v : Standing g.row.D.Denot g.row.N.Denot). v.pending) c.self.view_is ∙ c.requires.idle in
    let here = subst (λ (v : Standing g.row.D.Denot g.row.N.Denot). IsUpTo notes v (g.T.Turns.lanes c.args.turns.now) (seen c.args.turns.now)) (sym c.self.view_is)
    c.requires.here in
    let cut = lanes_are_cut_over notes d.lanes d.journal (records d.building) d.cut d.kept d.note c.self.invariant.desk idle (records c.cut_each-whole.new.building) _ _ _
    (seen c.args.turns.now) (seen c.draw_cut-c.new.self) (seen c.cut_each-whole.new.turns) c.note.result _ _ _ here.lanes_are c.draw_cut-c.ensures.same
    c.cut_each-whole.ensures.same here.alike c.draw_cut-c.ensures.cut c.draw_cut-c.ensures.start
    c.draw_cut-c.ensures.was c.cut_each-whole.ensures.cut c.cut_each-whole.ensures.start
    (record { start = c.note.ensures.start; history = c.note.ensures.history; was = c.note.ensures.was }) in
    continues_from g.D.Disk notes _ _ _ c.self.view_is
    (continues_grown note d.journal (records d.building) d.cut d.kept d.note c.self.invariant.desk c.note.result cut.start cut.legal cut.longer
    (λ honest image left. g.met.D.Disk.only_now _ image honest left) d.lanes _ d.since.value (records c.cut_each-whole.new.building) (record d.cut { c = c.draw_cut-c.result }))

pub returns-clause-ok : goal.returns-clause-ok
returns-clause-ok g c =
    let d = c.self.inside in
    let notes = g.N.Note in
    let note = at_lanes notes d.lanes in
    let seen = g.T.Turns.seen in
    let idle = ap (λ (v : Standing g.row.D.Denot g.row.N.Denot). v.pending) c.self.view_is ∙ c.requires.idle in
    let here = subst (λ (v : Standing g.row.D.Denot g.row.N.Denot). IsUpTo notes v (g.T.Turns.lanes c.args.turns.now) (seen c.args.turns.now)) (sym c.self.view_is)
    c.requires.here in
    let cut = lanes_are_cut_over notes d.lanes d.journal (records d.building) d.cut d.kept d.note c.self.invariant.desk idle (records c.cut_each-whole.new.building) _ _ _
    (seen c.args.turns.now) (seen c.draw_cut-c.new.self) (seen c.cut_each-whole.new.turns) c.note.result _ _ _ here.lanes_are c.draw_cut-c.ensures.same
    c.cut_each-whole.ensures.same here.alike c.draw_cut-c.ensures.cut c.draw_cut-c.ensures.start
    c.draw_cut-c.ensures.was c.cut_each-whole.ensures.cut c.cut_each-whole.ensures.start
    (record { start = c.note.ensures.start; history = c.note.ensures.history; was = c.note.ensures.was }) in (
      refl,
      subst (λ (v : Standing g.row.D.Denot g.row.N.Denot). places (notes.history v.lanes v.note).register ≤ c.draw_cut-c.result) c.self.view_is
          (rw c.draw_cut-c.ensures.places cut.places_are),
    )

pub cut_each-whole-requires-clause-legal : goal.cut_each-whole-requires-clause-legal
cut_each-whole-requires-clause-legal g c =
    let notes = g.N.Note in
    let turns = g.T.Turns in
    let drew = c.draw_cut-c.ensures in
    let seen = turns.seen c.draw_cut-c.new.self in
    let l = turns.lanes c.args.turns.now in
    subst (λ (m : ℕ). IsLegal (notes.kept m).service (notes.start m seen) (notes.history m seen)) (sym drew.same)
    (subst (λ (w : World (notes.kept l).service). IsLegal (notes.kept l).service w (notes.history l seen)) (sym drew.start) drew.cut.step.after)

pub returns-then-not-whole-clause-here : goal.returns-then-not-whole-clause-here
returns-then-not-whole-clause-here g c =
    let here = subst (λ (v : Standing g.row.D.Denot g.row.N.Denot). IsUpTo g.N.Note v (g.T.Turns.lanes c.args.turns.now) (g.T.Turns.seen c.args.turns.now))
    (sym c.self.view_is) c.requires.here in
    noted_up_to g.N.Note _ _ _ _ _ (c.cut_each-whole.ensures.same ∙ c.draw_cut-c.ensures.same ∙ here.lanes_are) c.note.ensures.same c.note.ensures.seen
    (record { start = c.note.ensures.start; history = c.note.ensures.history; was = c.note.ensures.was })

pub returns-then-not-whole-clause-lanes : goal.returns-then-not-whole-clause-lanes
returns-then-not-whole-clause-lanes g c =
    c.note.ensures.cut.1 ∙ c.cut_each-whole.ensures.lanes
    ∙ ap (λ (m : ℕ). (g.N.Note.kept m).service.lanes) (sym (c.note.ensures.same ∙ c.cut_each-whole.ensures.same))

pub returns-clause-here : goal.returns-clause-here
returns-clause-here g c =
    let here = subst (λ (v : Standing g.row.D.Denot g.row.N.Denot). IsUpTo g.N.Note v (g.T.Turns.lanes c.args.turns.now) (g.T.Turns.seen c.args.turns.now))
    (sym c.self.view_is) c.requires.here in
    noted_up_to g.N.Note _ _ _ _ _ (c.cut_each-whole.ensures.same ∙ c.draw_cut-c.ensures.same ∙ here.lanes_are) c.note.ensures.same c.note.ensures.seen
    (record { start = c.note.ensures.start; history = c.note.ensures.history; was = c.note.ensures.was })

pub returns-clause-lanes : goal.returns-clause-lanes
returns-clause-lanes g c =
    c.note.ensures.cut.1 ∙ c.cut_each-whole.ensures.lanes
    ∙ ap (λ (m : ℕ). (g.N.Note.kept m).service.lanes) (sym (c.note.ensures.same ∙ c.cut_each-whole.ensures.same))

pub returns-clause-order : goal.returns-clause-order
returns-clause-order g c =
    let d = c.self.inside in
    let notes = g.N.Note in
    let note = at_lanes notes d.lanes in
    let seen = g.T.Turns.seen in
    let idle = ap (λ (v : Standing g.row.D.Denot g.row.N.Denot). v.pending) c.self.view_is ∙ c.requires.idle in
    let here = subst (λ (v : Standing g.row.D.Denot g.row.N.Denot). IsUpTo notes v (g.T.Turns.lanes c.args.turns.now) (seen c.args.turns.now)) (sym c.self.view_is)
    c.requires.here in
    let cut = lanes_are_cut_over notes d.lanes d.journal (records d.building) d.cut d.kept d.note c.self.invariant.desk idle (records c.cut_each-whole.new.building) _ _ _
    (seen c.args.turns.now) (seen c.draw_cut-c.new.self) (seen c.cut_each-whole.new.turns) c.note.result _ _ _ here.lanes_are c.draw_cut-c.ensures.same
    c.cut_each-whole.ensures.same here.alike c.draw_cut-c.ensures.cut c.draw_cut-c.ensures.start
    c.draw_cut-c.ensures.was c.cut_each-whole.ensures.cut c.cut_each-whole.ensures.start
    (record { start = c.note.ensures.start; history = c.note.ensures.history; was = c.note.ensures.was }) in
    let whole = cut.order c.if-not-whole.false in
    subst (λ (v : Standing g.row.D.Denot g.row.N.Denot). (number : ℕ) × CutsLanes (notes.kept v.lanes).service (notes.history v.lanes v.note)
    (notes.history v.lanes c.note.result) number c.draw_cut-c.result) c.self.view_is (rw c.draw_cut-c.ensures.places whole)
