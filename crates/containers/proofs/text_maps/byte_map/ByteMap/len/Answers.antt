use Rattle.std.proofs.Common.{ap, sym, ◌∙◌, vec_items}
use Rattle.std.specs.FinMap as map
use Rattle.containers.proofs.TextMaps.KeyedMaps.{len-keyed}
use Rattle.containers.proofs.text_maps.byte_map.ByteMap.len.Goals as goal

pub returns : goal.returns
returns g c = c.len.ensures.len ∙ sym (len-keyed vec_items c.self.inside.entries.entries c.len.ensures.ordered) ∙ ap map.len c.self.view_is
