use Rattle.std.proofs.Common.{Err, ap, arith, refl, sym, ◌∙◌}
use Rattle.std.proofs.lemmas.Result.{err_from_is_err_and}
use Rattle.flush_journal.specs.Standing.{disk_of, pending_of}
use Rattle.flush_journal.specs.Batches.{records}
use Rattle.journal_desk.specs.Standing.{Standing}
use Rattle.journal_desk.proofs.ImageLemmas.{as_far}
use Rattle.journal_desk.proofs.AnsweredLemmas.{answered_call, answered_ok}
use Rattle.journal_desk.proofs.ImageLemmas.{image_kept}
use Rattle.journal_desk.specs.Notes.{at_lanes}
use Rattle.journal_desk.proofs.ContinueLemmas.{continues_from, continues_here, reached_now}
use Rattle.journal_desk.proofs.DeskLemmas.{settle_err, settle_leaves, settle_ok, is_pending}
use Rattle.journal_desk.proofs.OwedLemmas.{owes_still, owes_written}
use Rattle.journal_desk.proofs.RefusalLemmas.{first_done, first_refused, refused, refused_full}
use Rattle.journal_desk.proofs.desk.Desk.settle.Goals as goal

pub invariant_of-self : goal.invariant_of-self
invariant_of-self g c =
    let d = c.self.inside in
    let p = is_pending d.journal (c.pending.ensures.0 c.if-pending.true) in
    record {
      desk = settle_err _ _ _ _ d.journal c.settle.new.self (records d.building) d.cut d.kept c.self.invariant.desk p.0 p.1 _
          c.in_err-settle.ensures.writes;
      owes = owes_still _ _ _ _ _ _ (pending_of d.journal) (pending_of c.settle.new.self) p.0 (records d.building) d.kept p.1
          (c.in_err-settle.ensures.tries p.0 p.1).pending c.self.invariant.owes;
      answered = answered_call _ _ g.D.Disk _ c.self.invariant.desk.legal (disk_of d.journal) (disk_of c.settle.new.self) (disk_of d.at.value) d.kept
          c.self.invariant.desk.keepings
          (settle_leaves _ _ _ _ d.journal c.settle.new.self (records d.building) d.cut d.kept c.self.invariant.desk p.0 p.1 _ c.settle.ensures.writes)
          c.self.invariant.answered;
    }

pub returns-in_err-settle-clause-continues : goal.returns-in_err-settle-clause-continues
returns-in_err-settle-clause-continues g c =
    let d = c.self.inside in
    let p = is_pending d.journal (c.pending.ensures.0 c.if-pending.true) in
    continues_from g.D.Disk g.N.Note _ _ _ c.self.view_is
    (continues_here g.D.Disk (at_lanes g.N.Note d.lanes) d.lanes d.journal c.settle.new.self _ _ d.cut d.cut d.kept d.kept (disk_of d.at.value) (disk_of d.at.value)
    d.since.value d.since.value d.note c.self.invariant.desk.legal c.settle.ensures.same (as_far _) (λ honest. omega arith)
    (settle_leaves _ _ _ _ d.journal c.settle.new.self (records d.building) d.cut d.kept c.self.invariant.desk p.0 p.1 _ c.settle.ensures.writes))

pub returns-in_err-settle-clause-err : goal.returns-in_err-settle-clause-err
returns-in_err-settle-clause-err g c =
    let d = c.self.inside in
    let p = is_pending d.journal (c.pending.ensures.0 c.if-pending.true) in
    let found = err_from_is_err_and c.from_residual.result c.from_residual.ensures.1 in
    rw found.1 (
      (c.in_err-settle.ensures.tries p.0 p.1).pending ∙ sym p.1 ∙ ap (λ (v : Standing g.row.D.Denot g.row.N.Denot). v.pending) c.self.view_is,
      ap (λ (v : Standing g.row.D.Denot g.row.N.Denot). v.kept) c.self.view_is,
      ap (λ (v : Standing g.row.D.Denot g.row.N.Denot). v.at) c.self.view_is,
    )

pub returns-in_err-settle-clause-cause : goal.returns-in_err-settle-clause-cause
returns-in_err-settle-clause-cause g c =
    let d = c.self.inside in
    let p = is_pending d.journal (c.pending.ensures.0 c.if-pending.true) in
    let found = err_from_is_err_and c.from_residual.result c.from_residual.ensures.1 in
    refused g.D.Disk d.lanes d.journal c.settle.new.self p.0 c.settle.ensures.same
    (records d.building) (records d.building) d.cut d.kept (disk_of d.at.value) d.since.value d.note _ _ _ c.self.view_is (found.1 ∙ ap Err found.2) (c.in_err-settle.ensures.tries p.0 p.1)

pub returns-in_err-settle-clause-full : goal.returns-in_err-settle-clause-full
returns-in_err-settle-clause-full g c =
    let d = c.self.inside in
    let p = is_pending d.journal (c.pending.ensures.0 c.if-pending.true) in
    let found = err_from_is_err_and c.from_residual.result c.from_residual.ensures.1 in
    refused_full g.D.Disk d.lanes d.journal c.settle.new.self p.0 c.settle.ensures.same
    (records d.building) (records d.building) d.cut d.kept (disk_of d.at.value) d.since.value d.note _ _ (found.1 ∙ ap Err found.2) (c.in_err-settle.ensures.tries p.0 p.1)

pub invariant_of-self-then-pending : goal.invariant_of-self-then-pending
invariant_of-self-then-pending g c =
    let d = c.self.inside in
    let p = is_pending d.journal (c.pending.ensures.0 c.if-pending.true) in
    let desk = settle_ok _ _ _ _ d.journal c.settle.new.self (records d.building) d.cut d.kept c.self.invariant.desk p.0 p.1 c.in_ok-settle.ensures.writes in
    rw (c.of.ensures, c.of-then-pending.ensures) (record {
      desk = desk;
      owes = owes_written _ _ _ _ _ _ (pending_of d.journal) (pending_of c.settle.new.self) p.0 (records d.building) d.kept d.cut p.1
          (c.in_ok-settle.ensures.tries p.0 p.1).done
          (record { cut = c.self.invariant.desk.cut_cuts.c; last = c.self.invariant.desk.last_lanes }) c.self.invariant.desk.last_register
          c.self.invariant.owes;
      answered = answered_ok _ _ g.D.Disk _ c.self.invariant.desk.legal (disk_of d.journal) (disk_of c.settle.new.self) (disk_of d.at.value) d.kept
          c.self.invariant.desk.keepings
          (settle_leaves _ _ _ _ d.journal c.settle.new.self (records d.building) d.cut d.kept c.self.invariant.desk p.0 p.1 _ c.settle.ensures.writes)
          c.self.invariant.answered d.cut
          (λ honest image left. image_kept _ _ _ _ c.settle.new.self _ d.cut d.cut (desk.on_disk honest) image (g.met.D.Disk.only_now _ image honest left));
    })

pub returns-in_ok-settle-clause-continues : goal.returns-in_ok-settle-clause-continues
returns-in_ok-settle-clause-continues g c =
    let d = c.self.inside in
    let p = is_pending d.journal (c.pending.ensures.0 c.if-pending.true) in
    continues_from g.D.Disk g.N.Note _ _ _ c.self.view_is
    (continues_here g.D.Disk (at_lanes g.N.Note d.lanes) d.lanes d.journal c.settle.new.self _ _ d.cut d.cut d.kept d.cut (disk_of d.at.value) _
    d.since.value _ d.note c.self.invariant.desk.legal c.settle.ensures.same c.self.invariant.desk.far
    (reached_now g.D.Disk (disk_of d.at.value) d.journal c.settle.new.self c.of.result.value c.of.ensures c.settle.ensures.same
    (λ honest. (c.self.invariant.answered.own honest).0))
    (settle_leaves _ _ _ _ d.journal c.settle.new.self (records d.building) d.cut d.kept c.self.invariant.desk p.0 p.1 _ c.settle.ensures.writes))

pub returns-in_err-settle-clause-first : goal.returns-in_err-settle-clause-first
returns-in_err-settle-clause-first g c =
    let d = c.self.inside in
    let p = is_pending d.journal (c.pending.ensures.0 c.if-pending.true) in
    let found = err_from_is_err_and c.from_residual.result c.from_residual.ensures.1 in
    first_refused g.D.Disk d.lanes d.journal c.settle.new.self p.0 c.settle.ensures.same
    (records d.building) (records d.building) d.cut d.kept (disk_of d.at.value) d.since.value d.note _ _ _ c.self.view_is (found.1 ∙ ap Err found.2) p.1
    (c.in_err-settle.ensures.tries p.0 p.1)

pub returns-in_ok-settle-clause-first : goal.returns-in_ok-settle-clause-first
returns-in_ok-settle-clause-first g c =
    let d = c.self.inside in
    let p = is_pending d.journal (c.pending.ensures.0 c.if-pending.true) in
    first_done g.D.Disk d.lanes d.journal c.settle.new.self p.0 c.settle.ensures.same
    (records d.building) (records d.building) d.cut d.kept (disk_of d.at.value) d.since.value d.note _ _ _ _ c.self.view_is refl p.1
    (c.in_ok-settle.ensures.tries p.0 p.1)
