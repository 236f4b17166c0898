use Rattle.std.proofs.Common.{◌≡◌, drop}
use Rattle.hsds_cli.specs.Serves.{some_budget}
use Rattle.hsds_cli.proofs.serve.some_budget.Given as goal

abbrev pub invariant-loop-report : goal.invariant-loop-report
invariant-loop-report l = some_budget (drop l.report-index l.reports) ≡ some_budget l.reports
