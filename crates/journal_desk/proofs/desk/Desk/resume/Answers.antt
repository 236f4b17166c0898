use Rattle.std.proofs.Common.{◌≡◌, sym, subst}
use Rattle.lane_histories.specs.Services.{World}
use Rattle.lane_histories.specs.Legal.{IsLegal}
use Rattle.flush_journal.specs.Standing.{disk_of}
use Rattle.journal_desk.specs.Notes.{at_lanes}
use Rattle.journal_desk.specs.Standing.{Standing}
use Rattle.journal_desk.specs.Keepings.{AreItsKeepings}
use Rattle.journal_desk.specs.Cuts.{Resumes}
use Rattle.journal_desk.proofs.AnsweredLemmas.{answered_note}
use Rattle.journal_desk.proofs.ContinueLemmas.{continues_from}
use Rattle.journal_desk.proofs.TurnLemmas.{continues_grown, resumed, resumed_owes}
use Rattle.journal_desk.proofs.desk.Desk.resume.Goals as goal

pub invariant_of-self : goal.invariant_of-self
invariant_of-self g c =
    let d = c.self.inside in
    let notes = g.N.Note in
    let note = at_lanes notes d.lanes in
    let after = c.args.note in
    let start = subst (λ (v : Standing g.row.D.Denot g.row.N.Denot). notes.start v.lanes after ≡ notes.start v.lanes v.note) (sym c.self.view_is) c.requires.start in
    let was = subst (λ (v : Standing g.row.D.Denot g.row.N.Denot). notes.was v.lanes after ≡ notes.was v.lanes v.note) (sym c.self.view_is) c.requires.was in
    let more = subst (λ (v : Standing g.row.D.Denot g.row.N.Denot). Resumes (notes.history v.lanes v.note) (notes.history v.lanes after) v.kept)
    (sym c.self.view_is) c.requires.resumes in
    let there = subst (λ (v : Standing g.row.D.Denot g.row.N.Denot). IsLegal (notes.kept v.lanes).service (notes.start v.lanes after) (notes.history v.lanes after))
    (sym c.self.view_is) c.requires.legal in
    let legal = subst (λ (w : World (notes.kept d.lanes).service). IsLegal (notes.kept d.lanes).service w (notes.history d.lanes after)) start there in
    let known = subst (λ (v : Standing g.row.D.Denot g.row.N.Denot). AreItsKeepings g.D.Disk (at_lanes notes v.lanes) v (notes.history v.lanes after))
    (sym c.self.view_is) c.requires.keepings in
    record {
      desk = resumed note d.journal _ _ _ d.note c.self.invariant.desk after start was there more;
      owes = resumed_owes note d.journal _ _ _ d.note c.self.invariant.desk d.since.value after start was more c.self.invariant.owes;
      answered = answered_note g.D.Disk note (disk_of d.journal) (disk_of d.at.value) d.kept d.note after start legal more.others.longer
          c.self.invariant.answered known;
    }

pub returns-clause-continues : goal.returns-clause-continues
returns-clause-continues g c =
    let d = c.self.inside in
    let notes = g.N.Note in
    let after = c.args.note in
    let start = subst (λ (v : Standing g.row.D.Denot g.row.N.Denot). notes.start v.lanes after ≡ notes.start v.lanes v.note) (sym c.self.view_is) c.requires.start in
    let more = subst (λ (v : Standing g.row.D.Denot g.row.N.Denot). Resumes (notes.history v.lanes v.note) (notes.history v.lanes after) v.kept)
    (sym c.self.view_is) c.requires.resumes in
    let there = subst (λ (v : Standing g.row.D.Denot g.row.N.Denot). IsLegal (notes.kept v.lanes).service (notes.start v.lanes after) (notes.history v.lanes after))
    (sym c.self.view_is) c.requires.legal in
    let legal = subst (λ (w : World (notes.kept d.lanes).service). IsLegal (notes.kept d.lanes).service w (notes.history d.lanes after)) start there in
    continues_from g.D.Disk notes _ _ _ c.self.view_is
    (continues_grown (at_lanes notes d.lanes) d.journal _ _ _ d.note c.self.invariant.desk after start legal more.others.longer
    (λ honest image left. g.met.D.Disk.only_now _ image honest left) d.lanes _ d.since.value _ _)
