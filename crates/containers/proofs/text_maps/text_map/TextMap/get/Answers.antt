use Rattle.std.proofs.Common.{ap, sym, ◌∙◌, string_bytes}
use Rattle.std.specs.FinMap as map
use Rattle.containers.proofs.TextMaps.KeyedMaps.{get-keyed}
use Rattle.containers.proofs.text_maps.text_map.TextMap.get.Goals as goal

pub returns : goal.returns
returns g c =
    c.get.ensures.value ∙ sym (get-keyed string_bytes c.self.inside.entries.entries c.args.key.now)
    ∙ ap (λ m. map.get m c.args.key.now) c.self.view_is
