use Rattle.std.proofs.Common.{◌≡◌, ◌≤◌, length, map, take, option_map, drop}
use Rattle.serde_json.specs.View.{view}
use Rattle.json_trees.specs.Trees.{all_in, whole_in}
use Rattle.shapes.specs.declared.TheConstants.{MAX_RANK}
use Rattle.chunk_layout.proofs.LayoutLemmas.{kept_after}
use Rattle.chunk_layout.proofs.reading.numbers.Given as goal

abbrev pub invariant-loop-item : goal.invariant-loop-item
invariant-loop-item l = record {
  read : option_map (take MAX_RANK) (all_in whole_in (map view l.items)) ≡ option_map (kept_after l.kept) (all_in whole_in (map view (drop l.item-index l.items)));
  short : length l.kept ≤ MAX_RANK;
}
