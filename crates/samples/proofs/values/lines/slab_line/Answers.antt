use Rattle.std.proofs.Common.{◌∙◌, [], ◌∷◌, codes}
use Rattle.std.specs.Prelude.{decimal}
use Rattle.std.proofs.lemmas.Result.{IfOk-weaker}
use Rattle.samples.proofs.values.lines.slab_line.Goals as goal
use Rattle.samples.proofs.TextLemmas.{joined}

pub returns : goal.returns
returns c =
    IfOk-weaker c.format.result _ _
    (λ line h. h ∙ joined (codes "slab ") (decimal c.args.start) (codes " count 14300 sum ") (decimal c.args.sum) (10 ∷ []))
    c.format.ensures.ok
