use Rattle.std.proofs.Common.{ap, sym, ◌∙◌, string_bytes}
use Rattle.std.specs.FinMap as map
use Rattle.containers.proofs.TextMaps.KeyedMaps.{get-keyed, insert-keyed}
use Rattle.containers.proofs.text_maps.text_map.TextMap.put.Goals as goal
use Rattle.containers.proofs.Plain.{on_err}

pub returns-in_err-insert-clause-absent : goal.returns-in_err-insert-clause-absent
returns-in_err-insert-clause-absent g c =
    on_err c.from_residual.result
    (ap (λ m. map.get m (string_bytes c.args.key)) (sym c.self.view_is)
    ∙ get-keyed string_bytes c.self.inside.entries.entries (string_bytes c.args.key)
    ∙ c.in_err-insert.ensures.absent)

pub returns-clause-ok : goal.returns-clause-ok
returns-clause-ok g c =
    insert-keyed string_bytes c.self.inside.entries c.insert.new.self (string_bytes c.args.key) c.args.value c.in_ok-insert.ensures.updates
    ∙ ap (λ m. map.insert m (string_bytes c.args.key) c.args.value) c.self.view_is
