use Rattle.std.proofs.Common.{◌≡◌, map, drop}
use Rattle.std.specs.FinMap as finite
use Rattle.serde_json.specs.View.{view}
use Rattle.groups_links.specs.GroupLinks.{most_links}
use Rattle.object_records.specs.Lists.{listed, titled_in}
use Rattle.object_records.proofs.links.listed.Given as goal

-- what is listed so far, with what is left
abbrev pub invariant-loop-item : goal.invariant-loop-item
invariant-loop-item l = listed most_links titled_in l.links (map view (drop l.item-index l.items)) ≡ listed most_links titled_in finite.empty (map view l.items)
