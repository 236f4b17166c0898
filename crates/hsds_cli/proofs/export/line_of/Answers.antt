use Rattle.std.proofs.Common.{rules}
use Rattle.hsds_cli.proofs.ExportLemmas.{line_given}
use Rattle.hsds_cli.proofs.export.line_of.Goals as goal

pub returns-clause-ok : goal.returns-clause-ok
returns-clause-ok c = line_given _ _ _ c.in_ok-line.ensures.text c.in_ok-line.ensures.short c.in_ok-line.ensures.reads (search rules)
