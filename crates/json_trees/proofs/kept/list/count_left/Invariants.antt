use Rattle.std.proofs.Common.{◌≡◌, ◌+◌, List, length}
use Rattle.json.specs.Token.{Token}
use Rattle.serde_json.specs.Data.{Items}
use Rattle.json_trees.specs.Begun.{AreTrees}
use Rattle.json_trees.specs.Trees.{list_of}
use Rattle.json_trees.proofs.OfKept.StreamLemmas.{IsLeft}
use Rattle.json_trees.proofs.kept.list.count_left.Given as goal

-- the items so far and those that are left are all
abbrev pub invariant-items : goal.invariant-items
invariant-items l = (trees : Items) (rest : List Token) → AreTrees l.fn.reader trees rest → IsLeft (λ ds. l.count + length ds ≡ length (list_of trees)) l.reader rest

abbrev pub decreases-items : goal.decreases-items
decreases-items l = length l.reader
