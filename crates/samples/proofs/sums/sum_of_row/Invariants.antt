use Rattle.std.proofs.Common.{◌≡◌, ◌%◌, ◌^◌, take}
use Rattle.std.specs.List.{sum_by}
use Rattle.serde_json.specs.View.{view}
use Rattle.samples.specs.Sums.{number_in}
use Rattle.samples.proofs.sums.sum_of_row.Given as goal

abbrev pub invariant-loop-number : goal.invariant-loop-number
invariant-loop-number l = l.sum ≡ sum_by (λ v. number_in (view v)) (take l.number-index l.number-items) % 2 ^ 64
