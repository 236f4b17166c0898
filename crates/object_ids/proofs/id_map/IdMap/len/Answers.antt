use Rattle.std.proofs.Common.{ap, sym, ◌∙◌}
use Rattle.std.specs.FinMap as map
use Rattle.containers.proofs.TextMaps.TreeMaps.{len-tree}
use Rattle.object_ids.proofs.IdOrders.{id_order_total}
use Rattle.object_ids.proofs.id_map.IdMap.len.Goals as goal

pub returns : goal.returns
returns g c = c.len.ensures.len ∙ sym (len-tree id_order_total c.self.inside.entries.entries c.len.ensures.ordered) ∙ ap map.len c.self.view_is
