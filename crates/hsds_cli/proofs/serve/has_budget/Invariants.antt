use Rattle.std.proofs.Common.{◌≡◌, drop}
use Rattle.std.specs.List.{list_any}
use Rattle.hsds_cli.specs.Serves.{is_budget}
use Rattle.hsds_cli.proofs.serve.has_budget.Given as goal

abbrev pub invariant-loop-end : goal.invariant-loop-end
invariant-loop-end l = list_any is_budget (drop l.end-index l.ends) ≡ list_any is_budget l.ends
