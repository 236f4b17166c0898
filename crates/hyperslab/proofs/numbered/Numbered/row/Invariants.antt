use Rattle.std.proofs.Common.{◌-◌}
use Rattle.hyperslab.proofs.RowLemmas.{IsTail}
use Rattle.hyperslab.proofs.numbered.Numbered.row.Given as goal

abbrev pub invariant-loop-behind : goal.invariant-loop-behind
invariant-loop-behind l = IsTail l.self (l.rank - l.behind) l.index_step l.offset_step
