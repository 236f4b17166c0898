use Rattle.std.proofs.Common.{sym, ap, subst, ◌∙◌}
use Rattle.flush_journal.specs.Standing.{disk_of, pending_of}
use Rattle.flush_journal.specs.Unchanged.{SameDisk}
use Rattle.flush_journal.specs.declared.journal.Journal.{Journal}
use Rattle.flush_journal.proofs.Unchanged.{same_both}
use Rattle.rest_session.specs.Kept.Sessions.{HasCausesOf, IsEnded, IsSessionDiskFault}
use Rattle.rest_session.proofs.OfKept.Beginning.{backed_first, causes_unserved, fault_unserved, not_served, served_since}
use Rattle.rest_session.proofs.kept.session.serve_disk.Goals as goal

pub serve_begun-requires-clause-backed : goal.serve_begun-requires-clause-backed
serve_begun-requires-clause-backed g c = λ honest.
    let o = c.in-Ok.ensures.begun honest in
    backed_first c.in-Ok.field-0.journal c.in-Ok.field-0.world o.0 o.2.begun c.new-keeping.result c.new-keeping.ensures.journal c.new-keeping.ensures.building

pub serve_begun-requires-clause-new : goal.serve_begun-requires-clause-new
serve_begun-requires-clause-new g c = record {
  waits = ap pending_of c.new-keeping.ensures.journal ∙ c.in-Ok.ensures.idle;
  building = c.new-keeping.ensures.building;
  kept = c.new-keeping.ensures.kept;
}

pub returns-in-Ok-clause-ended : goal.returns-in-Ok-clause-ended
returns-in-Ok-clause-ended g c =
    let s = c.serve_begun.ensures.served in
    let lb = g.L.Source.left c.args.link.now in
    let la = g.L.Source.left c.serve_begun.new.link in
    let hb = g.L.Sink.held c.args.link.now in
    let ha = g.L.Sink.held c.serve_begun.new.link in
    subst (IsEnded g.D.Disk c.args.disk c.serve_begun.result.disk c.args.tokens.now lb la hb ha) (sym s.2)
    (served_since g.D.Disk c.args.disk c.in-Ok.field-0.journal c.in-Ok.field-0.world c.new-keeping.result c.new-keeping.ensures.journal c.args.tokens.now c.serve_begun.result.disk lb la hb ha s.0 s.1
    c.in-Ok.ensures.begun c.new-keeping.ensures.kept s.3)

pub returns-in-Ok-clause-same : goal.returns-in-Ok-clause-same
returns-in-Ok-clause-same g c =
    same_both g.D.Disk c.args.disk (disk_of c.in-Ok.field-0.journal) c.serve_begun.result.disk c.in-Ok.ensures.same
    (subst (λ (j : Journal g.row.D.Denot g.D.Disk). SameDisk g.D.Disk (disk_of j) c.serve_begun.result.disk) c.new-keeping.ensures.journal c.serve_begun.ensures.same)

pub returns-in-Err-clause-ended : goal.returns-in-Err-clause-ended
returns-in-Err-clause-ended g c =
    let left = g.L.Source.left c.args.link.now in
    let held = g.L.Sink.held c.args.link.now in
    subst (IsEnded g.D.Disk c.args.disk c.in-Err.field-0.disk c.args.tokens.now left left held held) (sym c.from.ensures)
    (not_served g.D.Disk c.args.disk c.in-Err.field-0.disk c.args.tokens.now left held c.in-Err.field-0.why c.in-Err.ensures.err)

pub returns-in-Err-clause-causes : goal.returns-in-Err-clause-causes
returns-in-Err-clause-causes g c =
    let read = g.L.Source.faults c.args.link.now in
    let written = g.L.Sink.faults c.args.link.now in
    subst (HasCausesOf read read written written) (sym c.from.ensures) (causes_unserved read written c.in-Err.field-0.why)

pub returns-in-Err-clause-disk_fault : goal.returns-in-Err-clause-disk_fault
returns-in-Err-clause-disk_fault g c = λ is. c.in-Err.ensures.disk_fault (fault_unserved c.in-Err.field-0.why (subst IsSessionDiskFault c.from.ensures is))
