use Rattle.std.proofs.Common.{ap, ◌∙◌}
use Rattle.std.specs.Cmp.Lexicographic.{nat_list_cmp_total}
use Rattle.containers.specs.TextMaps.Keyed.{with_values}
use Rattle.containers.proofs.TextMaps.KeyedMaps.{exact_texts}
use Rattle.containers.proofs.TextMaps.ValueMaps.{empty-values}
use Rattle.object_ids.proofs.NamedMaps.{empty_named, value_of}
use Rattle.object_ids.proofs.name_map.NameMap.new.Goals as goal

pub invariant_of-result : goal.invariant_of-result
invariant_of-result g c = empty_named c.new.result c.new.ensures

pub returns : goal.returns
returns g c = ap (with_values value_of) c.new.ensures ∙ empty-values nat_list_cmp_total exact_texts value_of
