use Rattle.std.proofs.Common.{◌≡◌, ◌++◌, length, drop}
use Rattle.register.specs.Tickets.{all_counted}
use Rattle.register.proofs.counts.all_counted.Given as goal

abbrev pub invariant-loop-count : goal.invariant-loop-count
invariant-loop-count l = (length l.after ≡ l.count-index) × (l.after ++ all_counted (drop l.count-index l.count-items) ≡ all_counted l.counts)
