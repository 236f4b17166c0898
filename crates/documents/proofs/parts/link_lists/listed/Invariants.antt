use Rattle.std.proofs.Common.{◌≡◌, ◌≤◌, map, drop}
use Rattle.std.specs.FinMap as finite
use Rattle.serde_json.specs.View.{view}
use Rattle.documents.specs.Parts.Items.{each_item}
use Rattle.documents.specs.Parts.LinkLists.{link_step}
use Rattle.documents.proofs.parts.link_lists.listed.Given as goal

-- what is listed so far, with what is left
abbrev pub invariant-loop-index : goal.invariant-loop-index
invariant-loop-index l = record {
  listed : each_item (link_step (view l.document) l.path) l.links l.index (map view (drop l.index l.items)) ≡ each_item (link_step (view l.document) l.path) finite.empty 0 (map view l.items);
  many : finite.len l.links ≤ l.index;
}
