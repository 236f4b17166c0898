use Rattle.std.proofs.Common.{string_bytes}
use Rattle.object_ids.proofs.NamedMaps.{entries_named}
use Rattle.object_ids.proofs.name_map.NameMap.as_tree.Goals as goal

pub returns : goal.returns
returns g c = entries_named c.self.inside.entries c.args.self.now c.self.view_is c.self.invariant string_bytes c.as_tree.result.now.entries c.as_tree.ensures
