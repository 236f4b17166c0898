use Rattle.containers.proofs.TextMaps.TreeMaps.{lent-tree}
use Rattle.object_ids.proofs.IdOrders.{id_order_once, id_order_total}
use Rattle.object_ids.proofs.id_map.IdMap.get_mut.Goals as goal

pub returns : goal.returns
returns g c =
    let lent = lent-tree id_order_total id_order_once c.self.inside.entries c.args.self.now c.self.view_is c.args.id.now c.get_mut.result c.get_mut.follows.lender c.get_mut.follows.lender-at-none c.get_mut.ensures.value c.get_mut.follows.holds c.get_mut.follows.holds-at-none in
    (lent.0, record { writes_back = tt; value = lent.1 })
