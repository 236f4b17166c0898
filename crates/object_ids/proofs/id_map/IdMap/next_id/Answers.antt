use Rattle.std.proofs.Common.{Some, Bor, option_map, ap, sym, ◌∙◌}
use Rattle.std.specs.FinMap as map
use Rattle.std.specs.Option.{option_copied}
use Rattle.object_ids.specs.IdOrder.{id_order}
use Rattle.object_ids.specs.IdValues.{Id}
use Rattle.containers.specs.TextMaps.Nexts.{first, left}
use Rattle.containers.proofs.TextMaps.TreeMaps.{entries-tree}
use Rattle.containers.proofs.TextMaps.Walks.{found_key}
use Rattle.object_ids.proofs.IdOrders.{id_order_total}
use Rattle.object_ids.proofs.id_map.IdMap.next_id.Goals as goal

abbrev lent : {X : Type 0} → Bor Id × Bor X → Id × X
lent e = (e.0.now, e.1.now)

abbrev key : {X : Type 0} → Id × X → Id
key e = e.0

pub returns-in_err-id-clause-least : goal.returns-in_err-id-clause-least
returns-in_err-id-clause-least g c =
    (found_key id_order_total c.args.self.now (option_copied c.args.after) c.from_residual.result (
    c.from_residual.ensures ∙ ap (option_map key) (sym (ap (option_map lent) c.in_err-id.was) ∙ c.next_entry.ensures.first
    ∙ ap (λ es. first (left id_order (option_copied c.args.after) es)) (sym (entries-tree id_order_total c.self.inside.entries.entries c.next_entry.ensures.ordered) ∙ ap map.entries c.self.view_is)))).0

pub returns-in_err-id-clause-step : goal.returns-in_err-id-clause-step
returns-in_err-id-clause-step g c =
    (found_key id_order_total c.args.self.now (option_copied c.args.after) c.from_residual.result (
    c.from_residual.ensures ∙ ap (option_map key) (sym (ap (option_map lent) c.in_err-id.was) ∙ c.next_entry.ensures.first
    ∙ ap (λ es. first (left id_order (option_copied c.args.after) es)) (sym (entries-tree id_order_total c.self.inside.entries.entries c.next_entry.ensures.ordered) ∙ ap map.entries c.self.view_is)))).1

pub returns-clause-least : goal.returns-clause-least
returns-clause-least g c =
    (found_key id_order_total c.args.self.now (option_copied c.args.after) (Some c.in_ok-id.id.now) (
    ap (option_map key) (sym (ap (option_map lent) c.in_ok-id.was) ∙ c.next_entry.ensures.first
    ∙ ap (λ es. first (left id_order (option_copied c.args.after) es)) (sym (entries-tree id_order_total c.self.inside.entries.entries c.next_entry.ensures.ordered) ∙ ap map.entries c.self.view_is)))).0

pub returns-clause-step : goal.returns-clause-step
returns-clause-step g c =
    (found_key id_order_total c.args.self.now (option_copied c.args.after) (Some c.in_ok-id.id.now) (
    ap (option_map key) (sym (ap (option_map lent) c.in_ok-id.was) ∙ c.next_entry.ensures.first
    ∙ ap (λ es. first (left id_order (option_copied c.args.after) es)) (sym (entries-tree id_order_total c.self.inside.entries.entries c.next_entry.ensures.ordered) ∙ ap map.entries c.self.view_is)))).1
