use Rattle.std.proofs.Common.{ap, sym, ◌∙◌, vec_items}
use Rattle.std.specs.FinMap as map
use Rattle.containers.proofs.TextMaps.KeyedMaps.{get-keyed, remove-keyed}
use Rattle.containers.proofs.text_maps.byte_map.ByteMap.remove.Goals as goal

pub returns-clause-value : goal.returns-clause-value
returns-clause-value g c =
    c.remove.ensures.value ∙ sym (get-keyed vec_items c.self.inside.entries.entries c.args.key.now)
    ∙ ap (λ m. map.get m c.args.key.now) c.self.view_is

pub returns-clause-rest : goal.returns-clause-rest
returns-clause-rest g c =
    remove-keyed vec_items c.self.inside.entries c.remove.new.self c.args.key.now c.remove.ensures.updates
    ∙ ap (λ m. map.remove m c.args.key.now) c.self.view_is
