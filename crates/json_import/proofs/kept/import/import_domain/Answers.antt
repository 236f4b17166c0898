use Rattle.std.proofs.Common.{sym, subst}
use Rattle.flush_journal.specs.Standing.{disk_of}
use Rattle.flush_journal.proofs.Unchanged.{same_both}
use Rattle.edge_traits.proofs.CauseLemmas.{rose_since}
use Rattle.json_import.specs.Kept.Imports.{CameTo, HasCauseOf, IsImportDiskFault}
use Rattle.json_import.proofs.OfKept.Kept.{came_to_from}
use Rattle.json_import.proofs.OfKept.Refusals.{cause_unstarted, fault_unstarted, not_started}
use Rattle.json_import.proofs.kept.import.import_domain.Goals as goal

pub returns-in-Ok-clause-came_to : goal.returns-in-Ok-clause-came_to
returns-in-Ok-clause-came_to g c =
    came_to_from g.D.Disk c.args.disk c.in-Ok.field-0.journal c.in-Ok.field-0.world c.import_begun.result.disk c.args.path.now c.args.owner.now (g.S.Source.left c.args.input.now)
    (g.S.Source.left c.import_begun.new.input) c.in-Ok.ensures.begun c.in-Ok.ensures.idle (λ k building u ws. c.images_are_kept.ensures k building u ws) c.import_begun.result.outcome c.import_begun.ensures.from

pub returns-in-Ok-clause-same : goal.returns-in-Ok-clause-same
returns-in-Ok-clause-same g c = same_both g.D.Disk c.args.disk (disk_of c.in-Ok.field-0.journal) c.import_begun.result.disk c.in-Ok.ensures.same c.import_begun.ensures.same

pub returns-in-Ok-clause-disk_fault : goal.returns-in-Ok-clause-disk_fault
returns-in-Ok-clause-disk_fault g c = λ is.
    rose_since (g.D.Disk.faults c.args.disk) (g.D.Disk.faults (disk_of c.in-Ok.field-0.journal)) (g.D.Disk.faults c.import_begun.result.disk) c.in-Ok.ensures.same.faults (c.import_begun.ensures.disk_fault is)

pub returns-in-Err-clause-came_to : goal.returns-in-Err-clause-came_to
returns-in-Err-clause-came_to g c =
    let left = g.S.Source.left c.args.input.now in
    subst (CameTo g.D.Disk c.args.disk c.in-Err.field-0.disk c.args.path.now c.args.owner.now left left) (sym c.from.ensures)
    (not_started g.D.Disk c.args.disk c.in-Err.field-0.disk c.args.path.now c.args.owner.now left c.in-Err.field-0.why c.in-Err.ensures.err)

pub returns-in-Err-clause-causes : goal.returns-in-Err-clause-causes
returns-in-Err-clause-causes g c =
    let faults = g.S.Source.faults c.args.input.now in
    subst (HasCauseOf faults faults) (sym c.from.ensures) (cause_unstarted faults c.in-Err.field-0.why)

pub returns-in-Err-clause-disk_fault : goal.returns-in-Err-clause-disk_fault
returns-in-Err-clause-disk_fault g c = λ is. c.in-Err.ensures.disk_fault (fault_unstarted c.in-Err.field-0.why (subst IsImportDiskFault c.from.ensures is))
