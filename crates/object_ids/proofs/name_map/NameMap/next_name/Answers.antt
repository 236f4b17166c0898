use Rattle.std.proofs.Common.{Bor, Option, subst, sym}
use Rattle.std.specs.Option.{option_copied}
use Rattle.containers.specs.TextMaps.Nexts.{IsNext, IsKeyStep}
use Rattle.object_ids.specs.declared.names.Name.{Name}
use Rattle.object_ids.proofs.NamedMaps.{next_named, none_next}
use Rattle.object_ids.proofs.name_map.NameMap.next_name.Goals as goal

pub returns-in_err-named-clause-least : goal.returns-in_err-named-clause-least
returns-in_err-named-clause-least g c =
    subst (λ (r : Option (Bor Name)). IsNext c.args.self.now (option_copied c.args.after) (option_copied r)) (sym c.from_residual.ensures)
    (none_next c.self.inside.entries c.args.self.now c.self.view_is c.self.invariant (option_copied c.args.after) c.in_err-named.ensures.least c.in_err-named.ensures.step).0

pub returns-in_err-named-clause-step : goal.returns-in_err-named-clause-step
returns-in_err-named-clause-step g c =
    subst (λ (r : Option (Bor Name)). IsKeyStep c.args.self.now (option_copied c.args.after) (option_copied r)) (sym c.from_residual.ensures)
    (none_next c.self.inside.entries c.args.self.now c.self.view_is c.self.invariant (option_copied c.args.after) c.in_err-named.ensures.least c.in_err-named.ensures.step).1

pub returns-clause-least : goal.returns-clause-least
returns-clause-least g c =
    (next_named c.self.inside.entries c.args.self.now c.self.view_is c.self.invariant (option_copied c.args.after) c.in_ok-named.field-0-0.now c.in_ok-named.named.now
    c.in_ok-named.ensures.least c.in_ok-named.ensures.value c.in_ok-named.ensures.step).0

pub returns-clause-step : goal.returns-clause-step
returns-clause-step g c =
    (next_named c.self.inside.entries c.args.self.now c.self.view_is c.self.invariant (option_copied c.args.after) c.in_ok-named.field-0-0.now c.in_ok-named.named.now
    c.in_ok-named.ensures.least c.in_ok-named.ensures.value c.in_ok-named.ensures.step).1
