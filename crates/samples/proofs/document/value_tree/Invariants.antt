use Rattle.samples.proofs.TreeLemmas.{AreRows}
use Rattle.samples.proofs.document.value_tree.Given as goal

abbrev pub invariant-loop-row : goal.invariant-loop-row
invariant-loop-row l = AreRows l.number 1000 l.row l.elements l.rows.items
