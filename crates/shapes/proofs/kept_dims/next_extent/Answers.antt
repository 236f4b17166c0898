use Rattle.std.proofs.Common.{subst}
use Rattle.std.proofs.lemmas.Result.{IfOk-weaker}
use Rattle.json_trees.specs.Kept.{Begins}
use Rattle.shapes.proofs.kept_dims.next_extent.Goals as goal

pub returns-clause-told : goal.returns-clause-told
returns-clause-told c =
    IfOk-weaker c.extent.result _ _ (λ n told tree rest h. told tree rest (subst (λ ts. Begins ts tree rest) c.in-Some.ensures.value h)) c.extent.ensures.told
