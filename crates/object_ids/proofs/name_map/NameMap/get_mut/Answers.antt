use Rattle.std.proofs.Common.{option_map, inr, ap, sym, ◌∙◌}
use Rattle.std.specs.Cmp.Lexicographic.{nat_list_cmp_total}
use Rattle.std.specs.FinMap as map
use Rattle.containers.proofs.TextMaps.KeyedMaps.{exact_texts}
use Rattle.containers.proofs.TextMaps.ValueMaps.{get-values, insert-values}
use Rattle.object_ids.proofs.NamedMaps.{insert_named, same_lent, value_of}
use Rattle.object_ids.proofs.name_map.NameMap.get_mut.Goals as goal

pub invariant_of-self-lent : goal.invariant_of-self-lent
invariant_of-self-lent g c = λ w. insert_named c.self.inside.entries c.args.text.now (record { name = c.in-Some.named.now.name; value = w })
    (c.self.invariant c.args.text.now c.in-Some.named.now (sym c.in-Some.ensures.value)) c.self.invariant

pub returns-in-Some : goal.returns-in-Some
returns-in-Some g c = (
  same_lent (λ w. insert-values nat_list_cmp_total exact_texts value_of c.self.inside.entries c.args.text.now (record { name = c.in-Some.named.now.name; value = w })
      ∙ ap (λ m. map.insert m c.args.text.now w) c.self.view_is),
  ap (option_map value_of) c.in-Some.ensures.value
      ∙ sym (get-values nat_list_cmp_total value_of c.self.inside.entries c.args.text.now) ∙ ap (λ m. map.get m c.args.text.now) c.self.view_is,
)

pub returns-in-None : goal.returns-in-None
returns-in-None g c = (
  ap inr c.self.view_is,
  ap (option_map value_of) c.in-None.ensures.value
      ∙ sym (get-values nat_list_cmp_total value_of c.self.inside.entries c.args.text.now) ∙ ap (λ m. map.get m c.args.text.now) c.self.view_is,
)
