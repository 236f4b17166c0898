use Rattle.std.proofs.Common.{option_map, ap, subst, sym, ◌∙◌}
use Rattle.std.specs.Cmp.Lexicographic.{nat_list_cmp_total}
use Rattle.std.specs.FinMap as map
use Rattle.containers.specs.TextMaps.Keyed.{with_values}
use Rattle.containers.proofs.TextMaps.KeyedMaps.{exact_texts}
use Rattle.containers.proofs.TextMaps.ValueMaps.{get-values, remove-values}
use Rattle.object_ids.specs.NamedEntries.{AreNamed}
use Rattle.object_ids.proofs.NamedMaps.{remove_named, value_of}
use Rattle.object_ids.proofs.name_map.NameMap.remove.Goals as goal
use Rattle.object_ids.proofs.name_map.NameMap.remove.Goals.{in-Some, in-None}

pub invariant_of-self : goal.invariant_of-self
invariant_of-self g c = subst AreNamed (sym c.remove.ensures.rest) (remove_named c.self.inside.entries c.args.text.now c.self.invariant)

pub returns-clause-value : goal.returns-clause-value
returns-clause-value g c =
    let found = ap (option_map value_of) c.remove.ensures.value ∙ sym (get-values nat_list_cmp_total value_of c.self.inside.entries c.args.text.now) ∙ ap (λ m. map.get m c.args.text.now) c.self.view_is in
    elim c.match-remove.branch [
      | in-Some w ↦ w.result-is ∙ ap (option_map value_of) (sym w.in-Some.is) ∙ found
      | in-None w ↦ w.result-is ∙ ap (option_map value_of) (sym w.in-None.is) ∙ found
    ]

pub returns-clause-rest : goal.returns-clause-rest
returns-clause-rest g c =
    ap (with_values value_of) c.remove.ensures.rest
    ∙ remove-values nat_list_cmp_total exact_texts value_of c.self.inside.entries c.args.text.now
    ∙ ap (λ m. map.remove m c.args.text.now) c.self.view_is
