use Rattle.std.proofs.Common.{◌≡◌, map, drop}
use Rattle.std.specs.FinMap as finite
use Rattle.serde_json.specs.View.{view}
use Rattle.containers.specs.TextMaps.Keyed.{with_values}
use Rattle.hdf_values.specs.Attributes.{content}
use Rattle.attributes.specs.AttributeMaps.{most_attributes}
use Rattle.object_records.specs.Lists.{attribute_in, listed}
use Rattle.object_records.proofs.names.listed.Given as goal

-- what is listed so far, with what is left
abbrev pub invariant-loop-item : goal.invariant-loop-item
invariant-loop-item l =
    listed most_attributes attribute_in (with_values content l.attributes) (map view (drop l.item-index l.items)) ≡ listed most_attributes attribute_in finite.empty (map view l.items)
