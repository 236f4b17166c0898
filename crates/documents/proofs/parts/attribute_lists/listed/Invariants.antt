use Rattle.std.proofs.Common.{◌≡◌, ◌≤◌, map, drop}
use Rattle.std.specs.FinMap as finite
use Rattle.serde_json.specs.View.{view}
use Rattle.documents.specs.Parts.AttributeLists.{attribute_step, HaveFewCells}
use Rattle.documents.specs.Parts.Items.{each_item}
use Rattle.documents.proofs.parts.attribute_lists.listed.Given as goal

-- what is listed so far, with what is left
abbrev pub invariant-loop-index : goal.invariant-loop-index
invariant-loop-index l = record {
  listed : each_item (attribute_step l.path) l.attributes l.index (map view (drop l.index l.items)) ≡ each_item (attribute_step l.path) finite.empty 0 (map view l.items);
  few : HaveFewCells l.attributes;
  many : finite.len l.attributes ≤ l.index;
}
