use Rattle.std.proofs.Common.{◌≤◌}
use Rattle.array_times.proofs.prints.print_number.Given as goal

abbrev pub invariant-loop-first : goal.invariant-loop-first
invariant-loop-first l = l.first ≤ 10

abbrev pub decreases-loop-first : goal.decreases-loop-first
decreases-loop-first l = l.first
