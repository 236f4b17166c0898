use Rattle.std.proofs.Common.{ap, sym, ◌∙◌}
use Rattle.std.specs.FinMap as map
use Rattle.containers.proofs.TextMaps.TreeMaps.{get-tree, remove-tree}
use Rattle.object_ids.proofs.IdOrders.{id_order_once, id_order_total}
use Rattle.object_ids.proofs.id_map.IdMap.remove.Goals as goal

pub returns-clause-value : goal.returns-clause-value
returns-clause-value g c =
    c.remove.ensures.value ∙ sym (get-tree id_order_total c.self.inside.entries c.args.id.now)
    ∙ ap (λ m. map.get m c.args.id.now) c.self.view_is

pub returns-clause-rest : goal.returns-clause-rest
returns-clause-rest g c =
    remove-tree id_order_total id_order_once c.self.inside.entries c.remove.new.self c.args.id.now c.remove.ensures.updates
    ∙ ap (λ m. map.remove m c.args.id.now) c.self.view_is
