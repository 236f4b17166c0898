use Rattle.std.proofs.Common.{option_map, ap, sym, ◌∙◌}
use Rattle.std.specs.Cmp.Lexicographic.{nat_list_cmp_total}
use Rattle.std.specs.FinMap as map
use Rattle.containers.proofs.TextMaps.KeyedMaps.{exact_texts}
use Rattle.containers.proofs.TextMaps.ValueMaps.{get-values, insert-values}
use Rattle.object_ids.proofs.NamedMaps.{insert_named, value_of}
use Rattle.object_ids.proofs.name_map.NameMap.put.Goals as goal
use Rattle.containers.proofs.Plain.{on_err}

pub invariant_of-self : goal.invariant_of-self
invariant_of-self g c = insert_named c.self.inside.entries c.text.result.now (record { name = c.in-Some.named.now.name; value = c.args.value })
    (c.self.invariant c.text.result.now c.in-Some.named.now (sym c.in-Some.ensures.value)) c.self.invariant

pub put_new-requires : goal.put_new-requires
put_new-requires g c =
    get-values nat_list_cmp_total value_of c.self.inside.entries c.args.name
    ∙ ap (λ k. option_map value_of (map.get c.self.inside.entries k)) (sym c.text.ensures.value)
    ∙ sym (ap (option_map value_of) c.in-None.ensures.value)

pub returns-in-Some-clause-ok : goal.returns-in-Some-clause-ok
returns-in-Some-clause-ok g c =
    insert-values nat_list_cmp_total exact_texts value_of c.self.inside.entries c.text.result.now (record { name = c.in-Some.named.now.name; value = c.args.value })
    ∙ (λ i. map.insert (c.self.view_is i) (c.text.ensures.value i) c.args.value)

pub returns-in-None-clause-absent : goal.returns-in-None-clause-absent
returns-in-None-clause-absent g c = on_err c.put_new.result (
    ap (λ m. map.get m c.args.name) (sym c.self.view_is)
    ∙ get-values nat_list_cmp_total value_of c.self.inside.entries c.args.name
    ∙ ap (λ k. option_map value_of (map.get c.self.inside.entries k)) (sym c.text.ensures.value)
    ∙ sym (ap (option_map value_of) c.in-None.ensures.value))
