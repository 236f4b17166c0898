use Rattle.std.proofs.Common.{◌∙◌, arith}
use Rattle.http_wire.proofs.Skips.{passes_more}
use Rattle.http_wire.proofs.skipping.drop_bytes.Goals as goal

pub pieces-preserved : goal.pieces-preserved
pieces-preserved g c = (
  (let b = c.in-Ok.ensures.bound in let t = c.pieces-test.true in omega (arith, b, t)),
  passes_more _ _ _ _ _ c.pieces.invariant.1 c.in-Ok.ensures.given.0,
  c.in-Ok.ensures.beside ∙ c.pieces.invariant.2,
  c.in-Ok.ensures.names ∙ c.pieces.invariant.3,
  omega (arith, c.pieces.invariant.4, c.in-Ok.ensures.cause.later),
  c.read_piece.auto.room ∙ c.pieces.invariant.5,
)
