use Rattle.std.proofs.Common.{◌∙◌, arith}
use Rattle.http_wire.proofs.Windows.{came_on}
use Rattle.http_wire.proofs.bodies.fill_from.Goals as goal

pub pieces-preserved : goal.pieces-preserved
pieces-preserved g c = (
  came_on _ _ _ _ _ _ _ _ _ c.pieces.invariant.0 c.read_behind.auto.bytes c.read_behind.ensures.stays c.in-Ok.ensures.bound c.in-Ok.ensures.given.0,
  c.in-Ok.ensures.beside ∙ c.pieces.invariant.1,
  c.in-Ok.ensures.names ∙ c.pieces.invariant.2,
  omega (arith, c.pieces.invariant.3, c.in-Ok.ensures.cause.later),
)
