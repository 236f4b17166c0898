use Rattle.std.proofs.Common.{ap, sym, ◌∙◌}
use Rattle.std.specs.FinMap as map
use Rattle.containers.proofs.TextMaps.TreeMaps.{entries-tree}
use Rattle.object_ids.proofs.IdOrders.{id_order_total}
use Rattle.object_ids.proofs.id_map.IdMap.as_tree.Goals as goal

pub returns : goal.returns
returns g c = ap map.entries (sym c.self.view_is) ∙ entries-tree id_order_total c.self.inside.entries.entries c.len-count.ensures.ordered
