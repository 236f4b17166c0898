use Rattle.std.proofs.Common.{ap, sym, ◌∙◌}
use Rattle.std.specs.FinMap as map
use Rattle.containers.proofs.TextMaps.TreeMaps.{get-tree}
use Rattle.object_ids.proofs.IdOrders.{id_order_total}
use Rattle.object_ids.proofs.id_map.IdMap.get.Goals as goal

pub returns : goal.returns
returns g c = c.get.ensures.value ∙ sym (get-tree id_order_total c.self.inside.entries c.args.id.now) ∙ ap (λ m. map.get m c.args.id.now) c.self.view_is
