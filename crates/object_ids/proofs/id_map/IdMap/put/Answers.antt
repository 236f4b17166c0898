use Rattle.std.proofs.Common.{ap, sym, ◌∙◌}
use Rattle.std.specs.FinMap as map
use Rattle.containers.proofs.TextMaps.TreeMaps.{get-tree, insert-tree}
use Rattle.object_ids.proofs.IdOrders.{id_order_once, id_order_total}
use Rattle.object_ids.proofs.id_map.IdMap.put.Goals as goal
use Rattle.containers.proofs.Plain.{on_err}

pub returns-in_err-insert-clause-absent : goal.returns-in_err-insert-clause-absent
returns-in_err-insert-clause-absent g c =
    on_err c.from_residual.result
    (ap (λ m. map.get m c.args.id) (sym c.self.view_is)
    ∙ get-tree id_order_total c.self.inside.entries c.args.id
    ∙ c.in_err-insert.ensures.absent)

pub returns-clause-ok : goal.returns-clause-ok
returns-clause-ok g c =
    insert-tree id_order_total id_order_once c.self.inside.entries c.insert.new.self c.args.id c.args.value c.in_ok-insert.ensures.updates
    ∙ ap (λ m. map.insert m c.args.id c.args.value) c.self.view_is
