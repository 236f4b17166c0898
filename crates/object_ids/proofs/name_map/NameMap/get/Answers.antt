use Rattle.std.proofs.Common.{option_map, ap, sym, ◌∙◌}
use Rattle.std.specs.Cmp.Lexicographic.{nat_list_cmp_total}
use Rattle.std.specs.FinMap as map
use Rattle.containers.proofs.TextMaps.ValueMaps.{get-values}
use Rattle.object_ids.proofs.NamedMaps.{value_of}
use Rattle.object_ids.proofs.name_map.NameMap.get.Goals as goal

pub returns-in-Some : goal.returns-in-Some
returns-in-Some g c =
    ap (option_map value_of) c.in-Some.ensures
    ∙ sym (get-values nat_list_cmp_total value_of c.self.inside.entries c.args.text.now) ∙ ap (λ m. map.get m c.args.text.now) c.self.view_is

pub returns-in-None : goal.returns-in-None
returns-in-None g c =
    ap (option_map value_of) c.in-None.ensures
    ∙ sym (get-values nat_list_cmp_total value_of c.self.inside.entries c.args.text.now) ∙ ap (λ m. map.get m c.args.text.now) c.self.view_is
