use Rattle.std.proofs.Common.{◌≡◌, ◌≤◌, ℕ, Result, ap, sym, ◌∙◌, subst}
use Rattle.std.specs.Result.{is_ok, IfOk}
use Rattle.std.specs.declared.alloc.AllocError.{AllocError}
use Rattle.flush_journal.specs.Standing.{disk_of}
use Rattle.flush_journal.specs.Batches.{records}
use Rattle.lane_histories.specs.Histories.{places}
use Rattle.journal_desk.specs.Cuts.{CutsRegister}
use Rattle.journal_desk.specs.Notes.{at_lanes}
use Rattle.journal_desk.specs.Standing.{Standing}
use Rattle.journal_desk.specs.Keepings.{IsUpTo}
use Rattle.journal_desk.proofs.AnsweredLemmas.{answered_step}
use Rattle.journal_desk.proofs.ContinueLemmas.{continues_from, noted_up_to}
use Rattle.journal_desk.proofs.TurnLemmas.{continues_grown, register_is_cut_over}
use Rattle.journal_desk.proofs.desk.Desk.cut_register.Goals as goal

pub invariant_of-self : goal.invariant_of-self
invariant_of-self g c =
    let d = c.self.inside in
    let notes = g.N.Note in
    let note = at_lanes notes d.lanes in
    let seen = g.T.Turns.seen in
    let idle = ap (λ (v : Standing g.row.D.Denot g.row.N.Denot). v.pending) c.self.view_is ∙ c.requires.idle in
    let here = subst (λ (v : Standing g.row.D.Denot g.row.N.Denot). IsUpTo notes v (g.T.Turns.lanes c.args.turns.now) (seen c.args.turns.now)) (sym c.self.view_is)
    c.requires.here in
    let taken = c.cut_register-places.ensures.cut in
    let cut = register_is_cut_over notes d.lanes d.journal (records d.building) d.cut d.kept d.note c.self.invariant.desk idle (records c.cut_register-places.new.into) _ _
    (seen c.args.turns.now) (seen c.cut_register-places.new.self) c.note.result _ _ here.lanes_are c.cut_register-places.ensures.same here.alike taken.1 c.cut_register-places.ensures.start c.cut_register-places.ensures.was
    (record { start = c.note.ensures.start; history = c.note.ensures.history; was = c.note.ensures.was }) in
    record {
      desk = cut.short (ap is_ok c.in_err-self-inside.was);
      owes = cut.owes d.since.value c.self.invariant.owes;
      answered = answered_step g.D.Disk note (disk_of d.journal) (disk_of d.at.value) d.kept d.note c.note.result cut.start cut.legal cut.longer
          c.self.invariant.answered cut.keepings;
    }

pub returns-in_err-self-inside-clause-continues : goal.returns-in_err-self-inside-clause-continues
returns-in_err-self-inside-clause-continues g c =
    let d = c.self.inside in
    let notes = g.N.Note in
    let note = at_lanes notes d.lanes in
    let seen = g.T.Turns.seen in
    let idle = ap (λ (v : Standing g.row.D.Denot g.row.N.Denot). v.pending) c.self.view_is ∙ c.requires.idle in
    let here = subst (λ (v : Standing g.row.D.Denot g.row.N.Denot). IsUpTo notes v (g.T.Turns.lanes c.args.turns.now) (seen c.args.turns.now)) (sym c.self.view_is)
    c.requires.here in
    let taken = c.cut_register-places.ensures.cut in
    let cut = register_is_cut_over notes d.lanes d.journal (records d.building) d.cut d.kept d.note c.self.invariant.desk idle (records c.cut_register-places.new.into) _ _
    (seen c.args.turns.now) (seen c.cut_register-places.new.self) c.note.result _ _ here.lanes_are c.cut_register-places.ensures.same here.alike taken.1 c.cut_register-places.ensures.start c.cut_register-places.ensures.was
    (record { start = c.note.ensures.start; history = c.note.ensures.history; was = c.note.ensures.was }) in
    continues_from g.D.Disk notes _ _ _ c.self.view_is
    (continues_grown note d.journal (records d.building) d.cut d.kept d.note c.self.invariant.desk c.note.result cut.start cut.legal cut.longer
    (λ honest image left. g.met.D.Disk.only_now _ image honest left) d.lanes _ d.since.value (records c.cut_register-places.new.into) d.cut)

pub invariant_of-self-2 : goal.invariant_of-self-2
invariant_of-self-2 g c =
    let d = c.self.inside in
    let notes = g.N.Note in
    let note = at_lanes notes d.lanes in
    let seen = g.T.Turns.seen in
    let idle = ap (λ (v : Standing g.row.D.Denot g.row.N.Denot). v.pending) c.self.view_is ∙ c.requires.idle in
    let here = subst (λ (v : Standing g.row.D.Denot g.row.N.Denot). IsUpTo notes v (g.T.Turns.lanes c.args.turns.now) (seen c.args.turns.now)) (sym c.self.view_is)
    c.requires.here in
    let taken = c.cut_register-places.ensures.cut in
    let cut = register_is_cut_over notes d.lanes d.journal (records d.building) d.cut d.kept d.note c.self.invariant.desk idle (records c.cut_register-places.new.into) _ _
    (seen c.args.turns.now) (seen c.cut_register-places.new.self) c.note.result _ _ here.lanes_are c.cut_register-places.ensures.same here.alike taken.1 c.cut_register-places.ensures.start c.cut_register-places.ensures.was
    (record { start = c.note.ensures.start; history = c.note.ensures.history; was = c.note.ensures.was }) in
    let found = ap is_ok c.in_ok-self-inside.was in
    let number : c.in_ok-self-inside.field-0 ≡ taken.0 =
    subst (λ (r : Result ℕ AllocError). IfOk r (λ n. n ≡ taken.0)) c.in_ok-self-inside.was taken.2 in
    record {
      desk = rw number (cut.well found);
      owes = cut.owes d.since.value c.self.invariant.owes;
      answered = answered_step g.D.Disk note (disk_of d.journal) (disk_of d.at.value) d.kept d.note c.note.result cut.start cut.legal cut.longer
          c.self.invariant.answered cut.keepings;
    }

pub returns-clause-continues : goal.returns-clause-continues
returns-clause-continues g c =
    let d = c.self.inside in
    let notes = g.N.Note in
    let note = at_lanes notes d.lanes in
    let seen = g.T.Turns.seen in
    let idle = ap (λ (v : Standing g.row.D.Denot g.row.N.Denot). v.pending) c.self.view_is ∙ c.requires.idle in
    let here = subst (λ (v : Standing g.row.D.Denot g.row.N.Denot). IsUpTo notes v (g.T.Turns.lanes c.args.turns.now) (seen c.args.turns.now)) (sym c.self.view_is)
    c.requires.here in
    let taken = c.cut_register-places.ensures.cut in
    let cut = register_is_cut_over notes d.lanes d.journal (records d.building) d.cut d.kept d.note c.self.invariant.desk idle (records c.cut_register-places.new.into) _ _
    (seen c.args.turns.now) (seen c.cut_register-places.new.self) c.note.result _ _ here.lanes_are c.cut_register-places.ensures.same here.alike taken.1 c.cut_register-places.ensures.start c.cut_register-places.ensures.was
    (record { start = c.note.ensures.start; history = c.note.ensures.history; was = c.note.ensures.was }) in
    continues_from g.D.Disk notes _ _ _ c.self.view_is
    (continues_grown note d.journal (records d.building) d.cut d.kept d.note c.self.invariant.desk c.note.result cut.start cut.legal cut.longer
    (λ honest image left. g.met.D.Disk.only_now _ image honest left) d.lanes _ d.since.value (records c.cut_register-places.new.into) (record d.cut { p = c.in_ok-self-inside.field-0 }))

pub returns-clause-last : goal.returns-clause-last
returns-clause-last g c =
    let d = c.self.inside in
    let notes = g.N.Note in
    let note = at_lanes notes d.lanes in
    let seen = g.T.Turns.seen in
    let idle = ap (λ (v : Standing g.row.D.Denot g.row.N.Denot). v.pending) c.self.view_is ∙ c.requires.idle in
    let here = subst (λ (v : Standing g.row.D.Denot g.row.N.Denot). IsUpTo notes v (g.T.Turns.lanes c.args.turns.now) (seen c.args.turns.now)) (sym c.self.view_is)
    c.requires.here in
    let taken = c.cut_register-places.ensures.cut in
    let cut = register_is_cut_over notes d.lanes d.journal (records d.building) d.cut d.kept d.note c.self.invariant.desk idle (records c.cut_register-places.new.into) _ _
    (seen c.args.turns.now) (seen c.cut_register-places.new.self) c.note.result _ _ here.lanes_are c.cut_register-places.ensures.same here.alike taken.1 c.cut_register-places.ensures.start c.cut_register-places.ensures.was
    (record { start = c.note.ensures.start; history = c.note.ensures.history; was = c.note.ensures.was }) in
    let found = ap is_ok c.in_ok-self-inside.was in
    let number : c.in_ok-self-inside.field-0 ≡ taken.0 =
    subst (λ (r : Result ℕ AllocError). IfOk r (λ n. n ≡ taken.0)) c.in_ok-self-inside.was taken.2 in
    rw number (cut.last found)

pub returns-clause-ok : goal.returns-clause-ok
returns-clause-ok g c =
    let d = c.self.inside in
    let notes = g.N.Note in
    let note = at_lanes notes d.lanes in
    let seen = g.T.Turns.seen in
    let idle = ap (λ (v : Standing g.row.D.Denot g.row.N.Denot). v.pending) c.self.view_is ∙ c.requires.idle in
    let here = subst (λ (v : Standing g.row.D.Denot g.row.N.Denot). IsUpTo notes v (g.T.Turns.lanes c.args.turns.now) (seen c.args.turns.now)) (sym c.self.view_is)
    c.requires.here in
    let taken = c.cut_register-places.ensures.cut in
    let cut = register_is_cut_over notes d.lanes d.journal (records d.building) d.cut d.kept d.note c.self.invariant.desk idle (records c.cut_register-places.new.into) _ _
    (seen c.args.turns.now) (seen c.cut_register-places.new.self) c.note.result _ _ here.lanes_are c.cut_register-places.ensures.same here.alike taken.1 c.cut_register-places.ensures.start c.cut_register-places.ensures.was
    (record { start = c.note.ensures.start; history = c.note.ensures.history; was = c.note.ensures.was }) in
    let found = ap is_ok c.in_ok-self-inside.was in
    let number : c.in_ok-self-inside.field-0 ≡ taken.0 =
    subst (λ (r : Result ℕ AllocError). IfOk r (λ n. n ≡ taken.0)) c.in_ok-self-inside.was taken.2 in (
      ap (λ (v : Standing g.row.D.Denot g.row.N.Denot). v.cut.c) c.self.view_is,
      subst (λ (v : Standing g.row.D.Denot g.row.N.Denot). places (notes.history v.lanes v.note).register ≤ c.in_ok-self-inside.field-0) c.self.view_is
          (rw number cut.places_are),
    )

pub returns-in_err-self-inside-clause-here : goal.returns-in_err-self-inside-clause-here
returns-in_err-self-inside-clause-here g c =
    let here = subst (λ (v : Standing g.row.D.Denot g.row.N.Denot). IsUpTo g.N.Note v (g.T.Turns.lanes c.args.turns.now) (g.T.Turns.seen c.args.turns.now))
    (sym c.self.view_is) c.requires.here in
    noted_up_to g.N.Note _ _ _ _ _ (c.cut_register-places.ensures.same ∙ here.lanes_are) c.note.ensures.same c.note.ensures.seen
    (record { start = c.note.ensures.start; history = c.note.ensures.history; was = c.note.ensures.was })

pub returns-in_err-self-inside-clause-lanes : goal.returns-in_err-self-inside-clause-lanes
returns-in_err-self-inside-clause-lanes g c =
    c.note.ensures.cut.1 ∙ c.cut_register-places.ensures.lanes ∙ c.requires.lanes
    ∙ ap (λ (m : ℕ). (g.N.Note.kept m).service.lanes) (sym (c.note.ensures.same ∙ c.cut_register-places.ensures.same))

pub returns-clause-here : goal.returns-clause-here
returns-clause-here g c =
    let here = subst (λ (v : Standing g.row.D.Denot g.row.N.Denot). IsUpTo g.N.Note v (g.T.Turns.lanes c.args.turns.now) (g.T.Turns.seen c.args.turns.now))
    (sym c.self.view_is) c.requires.here in
    noted_up_to g.N.Note _ _ _ _ _ (c.cut_register-places.ensures.same ∙ here.lanes_are) c.note.ensures.same c.note.ensures.seen
    (record { start = c.note.ensures.start; history = c.note.ensures.history; was = c.note.ensures.was })

pub returns-clause-lanes : goal.returns-clause-lanes
returns-clause-lanes g c =
    c.note.ensures.cut.1 ∙ c.cut_register-places.ensures.lanes ∙ c.requires.lanes
    ∙ ap (λ (m : ℕ). (g.N.Note.kept m).service.lanes) (sym (c.note.ensures.same ∙ c.cut_register-places.ensures.same))

pub returns-clause-order : goal.returns-clause-order
returns-clause-order g c =
    let d = c.self.inside in
    let notes = g.N.Note in
    let note = at_lanes notes d.lanes in
    let seen = g.T.Turns.seen in
    let idle = ap (λ (v : Standing g.row.D.Denot g.row.N.Denot). v.pending) c.self.view_is ∙ c.requires.idle in
    let here = subst (λ (v : Standing g.row.D.Denot g.row.N.Denot). IsUpTo notes v (g.T.Turns.lanes c.args.turns.now) (seen c.args.turns.now)) (sym c.self.view_is)
    c.requires.here in
    let taken = c.cut_register-places.ensures.cut in
    let cut = register_is_cut_over notes d.lanes d.journal (records d.building) d.cut d.kept d.note c.self.invariant.desk idle (records c.cut_register-places.new.into) _ _
    (seen c.args.turns.now) (seen c.cut_register-places.new.self) c.note.result _ _ here.lanes_are c.cut_register-places.ensures.same here.alike taken.1 c.cut_register-places.ensures.start c.cut_register-places.ensures.was
    (record { start = c.note.ensures.start; history = c.note.ensures.history; was = c.note.ensures.was }) in
    let found = ap is_ok c.in_ok-self-inside.was in
    let number : c.in_ok-self-inside.field-0 ≡ taken.0 =
    subst (λ (r : Result ℕ AllocError). IfOk r (λ n. n ≡ taken.0)) c.in_ok-self-inside.was taken.2 in
    subst (λ (v : Standing g.row.D.Denot g.row.N.Denot). CutsRegister (notes.kept v.lanes).service (notes.history v.lanes v.note)
    (notes.history v.lanes c.note.result) c.in_ok-self-inside.field-0) c.self.view_is (rw number (cut.order found))
