use Rattle.std.proofs.Common.{ap, sym, ◌∙◌}
use Rattle.object_ops.specs.declared.refusals.Refusal.TheVariants.{BadJson}
use Rattle.request_bodies.specs.Refusing.{or_refuse}
use Rattle.request_bodies.proofs.BodyLemmas.{object_read, other_read, found, tree_gone}
use Rattle.request_bodies.proofs.bodies.object.Goals as goal

pub returns-in_err-tree : goal.returns-in_err-tree
returns-in_err-tree c = tree_gone _ c.in_err-tree.field-0.0 c.args.bytes.now c.from_residual.ensures.1 c.in_err-tree.ensures

pub returns-then-is_object : goal.returns-then-is_object
returns-then-is_object c =
    ap (or_refuse BadJson) (object_read _ _ (found _ _ _ c.in_ok-tree.ensures) (sym c.is_object.ensures ∙ c.if-is_object.true))

pub returns-else-is_object : goal.returns-else-is_object
returns-else-is_object c =
    ap (or_refuse BadJson) (other_read _ _ (found _ _ _ c.in_ok-tree.ensures) (sym c.is_object.ensures ∙ c.if-is_object.false))
