use Rattle.std.proofs.Common.{arith}
use Rattle.rest_requests.proofs.OfRoutes.Paths.{are_bytes, value_is}
use Rattle.rest_requests.proofs.routes.table.RouteTable.value_at.Goals as goal

pub returns-in-Ok : goal.returns-in-Ok
returns-in-Ok c =
    value_is c.args.path.now _ _ c.args.self.now.is_table (are_bytes c.args.path.now (λ i. omega (arith, c.type_inv.path i))) c.in-Ok.ensures.found

pub returns-in-Err : goal.returns-in-Err
returns-in-Err c =
    value_is c.args.path.now _ _ c.args.self.now.is_table (are_bytes c.args.path.now (λ i. omega (arith, c.type_inv.path i))) c.in-Err.ensures.missing
