use Rattle.std.proofs.Common.{◌≡◌, drop}
use Rattle.hsds_cli.specs.Serves.{some_failed}
use Rattle.hsds_cli.proofs.serve.some_failed.Given as goal

abbrev pub invariant-loop-report : goal.invariant-loop-report
invariant-loop-report l = some_failed (drop l.report-index l.reports) ≡ some_failed l.reports
