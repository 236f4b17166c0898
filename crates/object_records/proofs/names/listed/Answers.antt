use Rattle.std.proofs.Common.{◌∙◌, map, ap}
use Rattle.std.specs.FinMap.{FinMap}
use Rattle.serde_json.specs.View.{view}
use Rattle.containers.specs.TextMaps.Keyed.{text_order, with_values}
use Rattle.hdf_values.specs.Attributes.{Content, content}
use Rattle.attributes.specs.AttributeMaps.{most_attributes}
use Rattle.object_records.specs.Lists.{attribute_in, listed}
use Rattle.object_records.proofs.ReadLemmas.{none_valued}
use Rattle.object_records.proofs.names.listed.Goals as goal

pub loop-item-init : goal.loop-item-init
loop-item-init c = ap (λ (m : FinMap text_order Content). listed most_attributes attribute_in m (map view c.args.items.now)) (ap (with_values content) c.new-attributes.ensures ∙ none_valued content)
