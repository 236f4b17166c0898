use Rattle.std.proofs.Common.{◌≡◌, ◌%◌, ◌^◌, take}
use Rattle.std.specs.List.{sum_by}
use Rattle.serde_json.specs.View.{view}
use Rattle.samples.specs.Sums.{row_in}
use Rattle.samples.proofs.sums.sum_of.Given as goal

abbrev pub invariant-loop-row : goal.invariant-loop-row
invariant-loop-row l = l.sum ≡ sum_by (λ v. row_in (view v)) (take l.row-index l.row-items) % 2 ^ 64
