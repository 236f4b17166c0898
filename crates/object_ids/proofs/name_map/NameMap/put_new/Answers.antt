use Rattle.std.proofs.Common.{ap, sym, ◌∙◌, string_bytes}
use Rattle.std.specs.Cmp.Lexicographic.{nat_list_cmp_total}
use Rattle.std.specs.FinMap as map
use Rattle.std.proofs.lemmas.Result.{on_ok_weaker}
use Rattle.containers.specs.TextMaps.Keyed.{with_values}
use Rattle.containers.proofs.TextMaps.KeyedMaps.{exact_texts}
use Rattle.containers.proofs.TextMaps.ValueMaps.{insert-values}
use Rattle.object_ids.proofs.NamedMaps.{put_named, value_of}
use Rattle.object_ids.proofs.name_map.NameMap.put_new.Goals as goal

pub invariant_of-self : goal.invariant_of-self
invariant_of-self g c = put_named c.put.result c.self.inside.entries c.put.new.self (string_bytes c.in_ok-key.key) (record { name = c.args.name; value = c.args.value })
    (sym (c.in_ok-key.ensures.ok ∙ c.text.ensures.value)) c.self.invariant c.put.ensures.ok c.put.ensures.err

pub returns-clause-ok : goal.returns-clause-ok
returns-clause-ok g c = on_ok_weaker c.put.result (λ done.
    ap (with_values value_of) done
    ∙ insert-values nat_list_cmp_total exact_texts value_of c.self.inside.entries (string_bytes c.in_ok-key.key) (record { name = c.args.name; value = c.args.value })
    ∙ (λ i. map.insert (c.self.view_is i) ((c.in_ok-key.ensures.ok ∙ c.text.ensures.value) i) c.args.value)) c.put.ensures.ok
