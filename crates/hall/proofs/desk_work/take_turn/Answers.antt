use Rattle.std.proofs.Common.{ℕ, sym, ap, subst, ◌∙◌}
use Rattle.journal_desk.specs.Notes.{AreAlike, at_lanes}
use Rattle.journal_desk.specs.Standing.{Standing}
use Rattle.hall.specs.DeskTurns.{OwesItsCuts}
use Rattle.hall.proofs.DeskWorkLemmas.{alike_at, keepings_note, legal_note, resumes_note}
use Rattle.hall.proofs.desk_work.take_turn.Goals as goal

pub resume-requires-clause-start : goal.resume-requires-clause-start
resume-requires-clause-start g c =
    let d = c.args.desk.now in
    let b = c.requires.behind in
    let n = c.note-note.ensures in
    (alike_at g.N.Note _ d.lanes _ _ b.lanes_are n.start n.history n.was).start ∙ b.start

pub resume-requires-clause-was : goal.resume-requires-clause-was
resume-requires-clause-was g c =
    let d = c.args.desk.now in
    let b = c.requires.behind in
    let n = c.note-note.ensures in
    (alike_at g.N.Note _ d.lanes _ _ b.lanes_are n.start n.history n.was).was ∙ b.was

pub resume-requires-clause-legal : goal.resume-requires-clause-legal
resume-requires-clause-legal g c =
    let d = c.args.desk.now in
    let b = c.requires.behind in
    let n = c.note-note.ensures in
    legal_note g.D.Disk (at_lanes g.N.Note d.lanes) d _ _ _ b (alike_at g.N.Note _ d.lanes _ _ b.lanes_are n.start n.history n.was)

pub resume-requires-clause-resumes : goal.resume-requires-clause-resumes
resume-requires-clause-resumes g c =
    let d = c.args.desk.now in
    let b = c.requires.behind in
    let n = c.note-note.ensures in
    resumes_note g.D.Disk (at_lanes g.N.Note d.lanes) d _ _ _ b (alike_at g.N.Note _ d.lanes _ _ b.lanes_are n.start n.history n.was)

pub resume-requires-clause-keepings : goal.resume-requires-clause-keepings
resume-requires-clause-keepings g c =
    let d = c.args.desk.now in
    let b = c.requires.behind in
    let n = c.note-note.ensures in
    keepings_note g.D.Disk (at_lanes g.N.Note d.lanes) d _ _ _ b (alike_at g.N.Note _ d.lanes _ _ b.lanes_are n.start n.history n.was)

pub do_work-result-requires-clause-here : goal.do_work-result-requires-clause-here
do_work-result-requires-clause-here g c =
    let d = c.args.desk.now in
    let b = c.requires.behind in
    let n = c.note-note.ensures in
    let a = alike_at g.N.Note _ d.lanes _ _ b.lanes_are n.start n.history n.was in
    let many = ap (λ (x : Standing g.row.D.Denot g.row.N.Denot). x.lanes) c.resume.ensures.note in record {
      lanes_are = n.same ∙ b.lanes_are ∙ sym many;
      alike = subst (λ (x : Standing g.row.D.Denot g.row.N.Denot). AreAlike (at_lanes g.N.Note x.lanes) x.note (g.T.Turns.seen c.note-note.new.self))
          (sym c.resume.ensures.note)
          (subst (AreAlike (at_lanes g.N.Note d.lanes) c.note-note.result) (sym n.seen) a);
    }

pub returns-clause-noted : goal.returns-clause-noted
returns-clause-noted g c =
    let d = c.args.desk.now in
    let b = c.requires.behind in
    let n = c.note-note.ensures in
    let a = alike_at g.N.Note _ d.lanes _ _ b.lanes_are n.start n.history n.was in
    subst (λ (x : Standing g.row.D.Denot g.row.N.Denot). AreAlike (at_lanes g.N.Note d.lanes) x.note (g.T.Turns.seen c.args.turns.now))
    (sym (c.of-before.ensures ∙ c.resume.ensures.note)) a

pub returns-clause-owing : goal.returns-clause-owing
returns-clause-owing g c =
    let d = c.args.desk.now in
    let many = ap (λ (x : Standing g.row.D.Denot g.row.N.Denot). x.lanes) c.resume.ensures.note in
    subst (λ (x : Standing g.row.D.Denot g.row.N.Denot). OwesItsCuts (at_lanes g.N.Note d.lanes) x) (sym c.of-before.ensures)
    (subst (λ (k : ℕ). OwesItsCuts (at_lanes g.N.Note k) c.resume.new.self) many c.owed_is_of_cuts.ensures.owed)
