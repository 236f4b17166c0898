use Rattle.std.proofs.Common.{◌≡◌, ℕ}
use Rattle.samples.specs.Values.Samples.{state}
use Rattle.samples.proofs.TreeLemmas.{AreNext}
use Rattle.samples.proofs.document.next_row.Given as goal

abbrev pub invariant-loop-column : goal.invariant-loop-column
invariant-loop-column l = (n k : ℕ) → l.fn.elements ≡ state n k → AreNext n k l.column l.elements l.row.items
