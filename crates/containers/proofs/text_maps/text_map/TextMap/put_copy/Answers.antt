use Rattle.std.proofs.Common.{ap, sym, ◌∙◌, string_bytes}
use Rattle.std.specs.FinMap as map
use Rattle.containers.proofs.TextMaps.KeyedMaps.{get-keyed, insert-keyed}
use Rattle.containers.proofs.text_maps.text_map.TextMap.put_copy.Goals as goal
use Rattle.containers.proofs.Plain.{on_err}

pub returns-in_err-copy-in-Some-clause-absent : goal.returns-in_err-copy-in-Some-clause-absent
returns-in_err-copy-in-Some-clause-absent g c =
    on_err c.from_residual.result
    (ap (λ m. map.get m c.args.key.now) (sym c.self.view_is)
    ∙ get-keyed string_bytes c.self.inside.entries.entries c.args.key.now
    ∙ c.in-Some.ensures.absent)

pub returns-in-None-clause-ok : goal.returns-in-None-clause-ok
returns-in-None-clause-ok g c =
    insert-keyed string_bytes c.self.inside.entries c.replace.new.entries c.args.key.now c.args.value c.in-None.ensures.there
    ∙ ap (λ m. map.insert m c.args.key.now c.args.value) c.self.view_is
