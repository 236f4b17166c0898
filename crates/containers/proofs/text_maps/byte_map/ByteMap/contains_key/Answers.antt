use Rattle.std.proofs.Common.{ap, sym, ◌∙◌, is_some, vec_items}
use Rattle.std.specs.FinMap as map
use Rattle.containers.proofs.TextMaps.KeyedMaps.{get-keyed}
use Rattle.containers.proofs.text_maps.byte_map.ByteMap.contains_key.Goals as goal

pub returns : goal.returns
returns g c =
    c.contains_key.ensures
    ∙ ap is_some (sym (get-keyed vec_items c.self.inside.entries.entries c.args.key.now) ∙ ap (λ m. map.get m c.args.key.now) c.self.view_is)
