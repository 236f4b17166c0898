use Rattle.std.proofs.Common.{◌≡◌, max, drop}
use Rattle.chunk_layout.specs.Defaults.{largest}
use Rattle.chunk_layout.proofs.defaults.largest_dim.Given as goal

abbrev pub invariant-loop-n : goal.invariant-loop-n
invariant-loop-n l = max l.most (largest (drop l.n-index l.n-items)) ≡ largest l.n-items
