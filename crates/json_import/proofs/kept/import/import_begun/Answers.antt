use Rattle.std.proofs.Common.{sym, subst}
use Rattle.service_core.specs.Worlds.{seen}
use Rattle.json_import.specs.Kept.Imports.{HasCauseOf, IsImportDiskFault}
use Rattle.json_import.specs.Kept.Parts.{CameToFrom}
use Rattle.json_import.specs.declared.kept.outcome.Outcome.{Outcome}
use Rattle.json_import.proofs.OfKept.Kept.{cause_of_keeping, from_keeping}
use Rattle.json_import.proofs.OfKept.Refusals.{cause_of_refusal, from_refusal, no_disk_fault}
use Rattle.json_import.proofs.kept.import.import_begun.Goals as goal

pub returns-in-Ok-clause-from : goal.returns-in-Ok-clause-from
returns-in-Ok-clause-from g c =
    let kept = c.keep_adopted.ensures.kept in
    subst (λ (o : Outcome). CameToFrom {D = g.row.D.Denot} {met = g.D.Disk} c.args.journal c.args.world c.keep_adopted.result.disk c.args.path.now c.args.owner.now (g.S.Source.left c.args.input.now)
    (g.S.Source.left c.adopt_input.new.input) o) (sym kept.1)
    (from_keeping c.args.journal c.args.world c.keep_adopted.result.disk c.args.path.now c.args.owner.now (g.S.Source.left c.args.input.now) (g.S.Source.left c.adopt_input.new.input)
    c.adopt_input.new.world c.in-Ok.counts kept.0 c.in-Ok.ensures.ok c.in-Ok.ensures.says kept.2)

pub returns-in-Ok-clause-causes : goal.returns-in-Ok-clause-causes
returns-in-Ok-clause-causes g c =
    let kept = c.keep_adopted.ensures.kept in
    subst (HasCauseOf (g.S.Source.faults c.args.input.now) (g.S.Source.faults c.adopt_input.new.input)) (sym kept.1)
    (cause_of_keeping (g.S.Source.faults c.args.input.now) (g.S.Source.faults c.adopt_input.new.input) kept.0 c.in-Ok.counts c.adopt_input.ensures.later)

pub returns-in-Err-clause-from : goal.returns-in-Err-clause-from
returns-in-Err-clause-from g c =
    subst (λ (o : Outcome). CameToFrom {D = g.row.D.Denot} {met = g.D.Disk} c.args.journal c.args.world c.into_disk.result c.args.path.now c.args.owner.now (g.S.Source.left c.args.input.now)
    (g.S.Source.left c.adopt_input.new.input) o) (sym c.from.ensures)
    (from_refusal c.args.journal c.args.world c.into_disk.result c.args.path.now c.args.owner.now (g.S.Source.left c.args.input.now) (g.S.Source.left c.adopt_input.new.input)
    (g.S.Source.faults c.args.input.now) (g.S.Source.faults c.adopt_input.new.input) c.in-Err.why c.in-Err.ensures.err c.adopt_input.ensures.taken c.into_disk.ensures)

pub returns-in-Err-clause-causes : goal.returns-in-Err-clause-causes
returns-in-Err-clause-causes g c =
    subst (HasCauseOf (g.S.Source.faults c.args.input.now) (g.S.Source.faults c.adopt_input.new.input)) (sym c.from.ensures)
    (cause_of_refusal (g.S.Source.left c.args.input.now) (g.S.Source.left c.adopt_input.new.input) (g.S.Source.faults c.args.input.now) (g.S.Source.faults c.adopt_input.new.input) (seen c.args.world) c.args.path.now
    c.in-Err.why c.in-Err.ensures.err c.adopt_input.ensures.later)

pub returns-in-Err-clause-disk_fault : goal.returns-in-Err-clause-disk_fault
returns-in-Err-clause-disk_fault g c = λ is. absurd (no_disk_fault c.in-Err.why (subst IsImportDiskFault c.from.ensures is))
