use Rattle.std.proofs.Common.{◌≡◌, None, Some, ap, arith, sym, ◌∙◌, subst}
use Rattle.flush_journal.specs.Standing.{disk_of, end_of, pending_of}
use Rattle.flush_journal.specs.Batches.{records}
use Rattle.lane_histories.specs.Cuts.{last_cut}
use Rattle.journal_desk.specs.Standing.{Standing}
use Rattle.journal_desk.proofs.ImageLemmas.{as_far}
use Rattle.journal_desk.proofs.AnsweredLemmas.{answered_call, answered_ok}
use Rattle.journal_desk.proofs.AppendLemmas.{appends_batch, appends_from, end_behind}
use Rattle.journal_desk.proofs.ImageLemmas.{image_kept}
use Rattle.journal_desk.specs.Notes.{at_lanes}
use Rattle.journal_desk.proofs.ContinueLemmas.{continues_from, continues_here, reached_now}
use Rattle.journal_desk.proofs.DeskLemmas.{append_err, append_leaves, append_ok}
use Rattle.journal_desk.proofs.OwedLemmas.{all_left, none_left, owed_added, owes_batch, owes_none}
use Rattle.journal_desk.proofs.desk.Desk.append.Goals as goal

pub invariant_of-self : goal.invariant_of-self
invariant_of-self g c =
    let d = c.self.inside in
    let idle = ap (λ (v : Standing g.row.D.Denot g.row.N.Denot). v.pending) c.self.view_is ∙ c.requires.idle in
    let register = subst (λ (v : Standing g.row.D.Denot g.row.N.Denot). last_cut None (g.N.Note.history v.lanes v.note).register ≡ Some v.cut.p)
    (sym c.self.view_is) c.requires.register in
    rw c.in_err-append_all.ensures.none (record {
      desk = append_err _ _ _ _ d.journal c.append_all.new.journal (records d.building) d.cut d.kept c.self.invariant.desk idle register _
          c.in_err-append_all.ensures.writes;
      owes = owes_batch _ _ _ _ _ _ (pending_of d.journal) (pending_of c.append_all.new.journal) (records d.building) d.kept idle
          (all_left d.journal c.append_all.new.journal _ (records d.building) c.in_err-append_all.ensures.tries c.in_err-append_all.ensures.empty)
          c.self.invariant.owes;
      answered = answered_call _ _ g.D.Disk _ c.self.invariant.desk.legal (disk_of d.journal) (disk_of c.append_all.new.journal) (disk_of d.at.value) d.kept
          c.self.invariant.desk.keepings
          (append_leaves _ _ _ _ d.journal c.append_all.new.journal (records d.building) d.cut d.kept c.self.invariant.desk idle register _ c.append_all.ensures.writes)
          c.self.invariant.answered;
    })

pub returns-in_err-append_all-clause-continues : goal.returns-in_err-append_all-clause-continues
returns-in_err-append_all-clause-continues g c =
    let d = c.self.inside in
    let idle = ap (λ (v : Standing g.row.D.Denot g.row.N.Denot). v.pending) c.self.view_is ∙ c.requires.idle in
    let register = subst (λ (v : Standing g.row.D.Denot g.row.N.Denot). last_cut None (g.N.Note.history v.lanes v.note).register ≡ Some v.cut.p)
    (sym c.self.view_is) c.requires.register in
    continues_from g.D.Disk g.N.Note _ _ _ c.self.view_is
    (continues_here g.D.Disk (at_lanes g.N.Note d.lanes) d.lanes d.journal c.append_all.new.journal _ _ d.cut d.cut d.kept d.kept (disk_of d.at.value) (disk_of d.at.value)
    d.since.value d.since.value d.note c.self.invariant.desk.legal c.append_all.ensures.same (as_far _) (λ honest. omega arith)
    (append_leaves _ _ _ _ d.journal c.append_all.new.journal (records d.building) d.cut d.kept c.self.invariant.desk idle register _ c.append_all.ensures.writes))

pub invariant_of-self-2 : goal.invariant_of-self-2
invariant_of-self-2 g c =
    let d = c.self.inside in
    let idle = ap (λ (v : Standing g.row.D.Denot g.row.N.Denot). v.pending) c.self.view_is ∙ c.requires.idle in
    let register = subst (λ (v : Standing g.row.D.Denot g.row.N.Denot). last_cut None (g.N.Note.history v.lanes v.note).register ≡ Some v.cut.p)
    (sym c.self.view_is) c.requires.register in
    let desk = append_ok _ _ _ _ d.journal c.append_all.new.journal (records d.building) d.cut d.kept c.self.invariant.desk idle register
    c.in_ok-append_all.ensures.writes in
    rw (c.in_ok-append_all.ensures.none, c.of.ensures, c.of-2.ensures) (record {
      desk = desk;
      owes = owes_none _ _ _ _ (pending_of c.append_all.new.journal) d.cut
          (none_left d.journal c.append_all.new.journal (records d.building) c.in_ok-append_all.ensures.tries c.append_all.ensures.untouched idle)
          (record { cut = c.self.invariant.desk.cut_cuts.c; last = c.self.invariant.desk.last_lanes }) c.self.invariant.desk.last_register;
      answered = answered_ok _ _ g.D.Disk _ c.self.invariant.desk.legal (disk_of d.journal) (disk_of c.append_all.new.journal) (disk_of d.at.value) d.kept
          c.self.invariant.desk.keepings
          (append_leaves _ _ _ _ d.journal c.append_all.new.journal (records d.building) d.cut d.kept c.self.invariant.desk idle register _ c.append_all.ensures.writes)
          c.self.invariant.answered d.cut
          (λ honest image left. image_kept _ _ _ _ c.append_all.new.journal _ d.cut d.cut (desk.on_disk honest) image (g.met.D.Disk.only_now _ image honest left));
    })

pub returns-clause-continues : goal.returns-clause-continues
returns-clause-continues g c =
    let d = c.self.inside in
    let idle = ap (λ (v : Standing g.row.D.Denot g.row.N.Denot). v.pending) c.self.view_is ∙ c.requires.idle in
    let register = subst (λ (v : Standing g.row.D.Denot g.row.N.Denot). last_cut None (g.N.Note.history v.lanes v.note).register ≡ Some v.cut.p)
    (sym c.self.view_is) c.requires.register in
    continues_from g.D.Disk g.N.Note _ _ _ c.self.view_is
    (continues_here g.D.Disk (at_lanes g.N.Note d.lanes) d.lanes d.journal c.append_all.new.journal _ _ d.cut d.cut d.kept d.cut (disk_of d.at.value) _
    d.since.value _ d.note c.self.invariant.desk.legal c.append_all.ensures.same c.self.invariant.desk.far
    (reached_now g.D.Disk (disk_of d.at.value) d.journal c.append_all.new.journal c.of.result.value c.of.ensures c.append_all.ensures.same
    (λ honest. (c.self.invariant.answered.own honest).0))
    (append_leaves _ _ _ _ d.journal c.append_all.new.journal (records d.building) d.cut d.kept c.self.invariant.desk idle register _ c.append_all.ensures.writes))

pub returns-clause-wrote : goal.returns-clause-wrote
returns-clause-wrote g c =
    let d = c.self.inside in
    let idle = ap (λ (v : Standing g.row.D.Denot g.row.N.Denot). v.pending) c.self.view_is ∙ c.requires.idle in
    let end = end_behind (records d.building) (end_of d.journal) (end_of c.append_all.new.journal)
    (λ some. ap (λ n. n.end) (c.in_ok-append_all.ensures.tries some).counted) (λ none. ap end_of (c.append_all.ensures.untouched none)) in
    appends_from g.N.Note _ _ _ _ c.self.view_is
    (appends_batch (at_lanes g.N.Note d.lanes) d.lanes d.journal c.append_all.new.journal (records d.building) _ d.cut d.kept (disk_of d.at.value) _
    d.since.value _ d.note idle c.of-2.ensures (owed_added _ _ _ _ _ _ (pending_of d.journal) (records d.building) d.kept idle c.self.invariant.owes) end)
