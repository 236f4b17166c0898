use Rattle.std.proofs.Common.{◌∙◌, ◌+◌, codes}
use Rattle.std.specs.Prelude.{decimal}
use Rattle.std.proofs.lemmas.Result.{IfOk-weaker}
use Rattle.samples.proofs.selection.selection_text.Goals as goal
use Rattle.samples.proofs.TextLemmas.{joined}

pub returns : goal.returns
returns c =
    IfOk-weaker c.format.result _ _
    (λ text h. h ∙ joined (codes "[") (decimal c.args.start) (codes ":") (decimal (c.args.start + 100)) (codes ",0:1000:7]"))
    c.format.ensures.ok
