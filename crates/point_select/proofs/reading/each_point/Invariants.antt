use Rattle.std.proofs.Common.{◌≡◌, List, length}
use Rattle.std.specs.Vec.{vec_len, vec_capacity}
use Rattle.json.specs.Token.{Token}
use Rattle.serde_json.specs.Data.{Items}
use Rattle.json_trees.specs.Begun.{AreTrees}
use Rattle.json_trees.specs.Trees.{list_of}
use Rattle.shapes.specs.Shapes.{dims_of}
use Rattle.json_trees.proofs.OfKept.StreamLemmas.{IsLeft}
use Rattle.point_select.proofs.PointLemmas.{AreBehind}
use Rattle.point_select.proofs.reading.each_point.Given as goal

abbrev pub invariant-loop-index : goal.invariant-loop-index
invariant-loop-index l = record {
  left : (trees : Items) (rest : List Token) → AreTrees l.fn.reader trees rest → length (list_of trees) ≡ l.count → IsLeft (AreBehind (dims_of l.shape) (list_of trees) l.count l.list.items l.index) l.reader rest;
  len : vec_len l.list ≡ l.index;
  room : vec_capacity l.list ≡ l.count;
}
