use Rattle.std.proofs.Common.{◌≤◌, List, length}
use Rattle.json.specs.Token.{Token}
use Rattle.serde_json.specs.Data.{Items}
use Rattle.json_trees.specs.Begun.{AreTrees}
use Rattle.hdf_values.proofs.OfKept.PartLemmas.{ArePassed}
use Rattle.hdf_values.proofs.kept.parts.read_end.Given as goal

-- what else the list has was passed over, and the others are left
abbrev pub invariant-items : goal.invariant-items
invariant-items l = record {
  not_longer : length l.reader ≤ length l.fn.reader;
  passed : (trees : Items) (rest : List Token) → AreTrees l.fn.reader trees rest → ArePassed l.has_more trees l.reader rest;
}

abbrev pub decreases-items : goal.decreases-items
decreases-items l = length l.reader
