use Rattle.std.proofs.Common.{List, ap, subst}
use Rattle.flush_journal.specs.Batches.{records}
use Rattle.flush_journal.specs.Records.{Record}
use Rattle.flush_journal.specs.Tries.{Writes}
use Rattle.journal_desk.proofs.desk.append_all.Goals as goal

pub returns-clause-writes : goal.returns-clause-writes
returns-clause-writes g c honest content settled =
    subst (λ (rs : List Record). Writes {D = g.row.D.Denot} {met = g.D.Disk} c.args.journal.now c.append.new.self content rs c.append.result)
    (ap records c.replace-batch.ensures.value) (c.append.ensures.writes honest content settled)
