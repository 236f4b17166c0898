use Rattle.std.proofs.Common.{ap, sym, ◌∙◌, string_bytes}
use Rattle.std.specs.FinMap as map
use Rattle.containers.proofs.TextMaps.KeyedMaps.{len-keyed}
use Rattle.containers.proofs.text_maps.text_map.TextMap.len.Goals as goal

pub returns : goal.returns
returns g c = c.len.ensures.len ∙ sym (len-keyed string_bytes c.self.inside.entries.entries c.len.ensures.ordered) ∙ ap map.len c.self.view_is
