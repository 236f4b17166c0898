use Rattle.std.proofs.Common.{inr, sym, ◌∙◌}
use Rattle.hsds_cli.proofs.start.Goals as goal

pub returns : goal.returns
returns g c =
    let ran = c.run-finished.ensures.run in
    let doors = c.in-Ok-doors_for in
    inr (_, c.journal_disk.result, c.run-finished.result.disk, c.run-finished.result.closed, _, _, ran.0, ran.1, sym doors.doors.ok.0 ∙ doors.ensures.one_each, ran.3)
