use Rattle.std.proofs.Common.{◌≤◌, List, length}
use Rattle.json.specs.Token.{Token}
use Rattle.json_trees.specs.Begun.{AreMembers}
use Rattle.json_trees.proofs.kept.passing.pass_members.Given as goal

-- what is left ends where all ends
abbrev pub invariant-members : goal.invariant-members
invariant-members l = record {
  passed : (rest : List Token) → AreMembers l.fn.reader rest → AreMembers l.reader rest;
  not_longer : length l.reader ≤ length l.fn.reader;
}

abbrev pub decreases-members : goal.decreases-members
decreases-members l = length l.reader
