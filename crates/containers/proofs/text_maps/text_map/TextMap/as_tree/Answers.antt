use Rattle.std.proofs.Common.{ap, sym, ◌∙◌, string_bytes}
use Rattle.std.specs.FinMap as map
use Rattle.containers.proofs.TextMaps.KeyedMaps.{entries-keyed}
use Rattle.containers.proofs.text_maps.text_map.TextMap.as_tree.Goals as goal

pub returns : goal.returns
returns g c = ap map.entries (sym c.self.view_is) ∙ entries-keyed string_bytes c.self.inside.entries.entries c.len-count.ensures.ordered
