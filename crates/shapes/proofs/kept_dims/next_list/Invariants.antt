use Rattle.std.proofs.Common.{◌≡◌, ◌≤◌, [], List, Some, length}
use Rattle.json.specs.Token.{Token}
use Rattle.serde_json.specs.Data.{Items}
use Rattle.json_trees.specs.Begun.{AreTrees}
use Rattle.json_trees.specs.Trees.{list_of}
use Rattle.shapes.proofs.KeptDimLemmas.{dims_after}
use Rattle.json_trees.proofs.OfKept.StreamLemmas.{IsLeft}
use Rattle.shapes.proofs.kept_dims.next_list.Given as goal

-- the dims so far with the items that are left are those of the whole list
abbrev pub invariant-items : goal.invariant-items
invariant-items l = record {
  not_longer : length l.reader ≤ length l.fn.reader;
  left : (trees : Items) (rest : List Token) → AreTrees l.fn.reader trees rest → IsLeft (λ ds. dims_after l.dims ds ≡ dims_after (Some []) (list_of trees)) l.reader rest;
}

abbrev pub decreases-items : goal.decreases-items
decreases-items l = length l.reader
