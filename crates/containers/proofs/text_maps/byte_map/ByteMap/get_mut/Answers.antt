use Rattle.std.proofs.Common.{vec_items}
use Rattle.containers.proofs.TextMaps.Lending.{lent-keyed}
use Rattle.containers.proofs.text_maps.byte_map.ByteMap.get_mut.Goals as goal

pub returns : goal.returns
returns g c =
    let lent = lent-keyed vec_items c.self.inside.entries c.args.self.now c.self.view_is c.args.key.now c.get_mut.result c.get_mut.follows.lender c.get_mut.follows.lender-at-none c.get_mut.ensures.value c.get_mut.follows.holds c.get_mut.follows.holds-at-none in
    (lent.0, record { writes_back = tt; value = lent.1 })
