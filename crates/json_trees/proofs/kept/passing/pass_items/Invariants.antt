use Rattle.std.proofs.Common.{◌≤◌, List, length}
use Rattle.json.specs.Token.{Token}
use Rattle.json_trees.specs.Begun.{AreItems}
use Rattle.json_trees.proofs.kept.passing.pass_items.Given as goal

-- what is left ends where all ends
abbrev pub invariant-items : goal.invariant-items
invariant-items l = record {
  passed : (rest : List Token) → AreItems l.fn.reader rest → AreItems l.reader rest;
  not_longer : length l.reader ≤ length l.fn.reader;
}

abbrev pub decreases-items : goal.decreases-items
decreases-items l = length l.reader
