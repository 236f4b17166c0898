use Rattle.std.proofs.Common.{rules, arith, ◌∙◌}
use Rattle.edge_traits.proofs.Pieces.{appended_more}
use Rattle.edge_traits.proofs.sink.write_all.Goals as goal

pub pieces-preserved : goal.pieces-preserved
pieces-preserved g c = (
  search rules,
  appended_more _ _ _ _ _ _ c.pieces.invariant.1 c.in_ok-done.ensures.bytes,
  c.in_ok-done.ensures.beside ∙ c.pieces.invariant.2,
  c.in_ok-done.ensures.names ∙ c.pieces.invariant.3,
  omega (arith, c.pieces.invariant.4, c.in_ok-done.ensures.cause.later),
)
