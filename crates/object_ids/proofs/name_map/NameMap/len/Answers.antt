use Rattle.std.proofs.Common.{ap, sym, ◌∙◌}
use Rattle.std.specs.Cmp.Lexicographic.{nat_list_cmp_total}
use Rattle.std.specs.FinMap as map
use Rattle.containers.proofs.TextMaps.ValueMaps.{len-values}
use Rattle.object_ids.proofs.NamedMaps.{value_of}
use Rattle.object_ids.proofs.name_map.NameMap.len.Goals as goal

pub returns : goal.returns
returns g c = c.len.ensures ∙ sym (len-values nat_list_cmp_total value_of c.self.inside.entries) ∙ ap map.len c.self.view_is
