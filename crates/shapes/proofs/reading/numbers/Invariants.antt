use Rattle.std.proofs.Common.{◌≡◌, ◌≤◌, length, map, option_map, drop}
use Rattle.serde_json.specs.View.{view}
use Rattle.json_trees.specs.Trees.{all_in}
use Rattle.shapes.specs.declared.TheConstants.{MAX_RANK}
use Rattle.shapes.specs.Spelled.{kept_of, kept_after, number_in}
use Rattle.shapes.proofs.reading.numbers.Given as goal

abbrev pub invariant-loop-item : goal.invariant-loop-item
invariant-loop-item l = record {
  read : option_map kept_of (all_in (number_in l.role) (map view l.items)) ≡ option_map (kept_after l.item-index l.kept) (all_in (number_in l.role) (map view (drop l.item-index l.items)));
  short : length l.kept ≤ MAX_RANK;
}
