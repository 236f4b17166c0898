use Rattle.std.proofs.Common.{◌∙◌, sym}
use Rattle.rest_requests.proofs.OfRoutes.RouteParts.{route_parts}
use Rattle.rest_requests.proofs.routes.table.RouteTable.find.Goals as goal

pub returns-clause-parts : goal.returns-clause-parts
returns-clause-parts c = λ route. (
  (λ is. (route_parts c.args.path.now route).0 (sym c.value_at.ensures ∙ is)),
  (λ has. c.value_at.ensures ∙ (route_parts c.args.path.now route).1 has),
)
