use Rattle.std.proofs.Common.{◌∙◌, [], ◌∷◌, codes}
use Rattle.std.specs.Prelude.{decimal}
use Rattle.std.proofs.lemmas.Result.{IfOk-weaker}
use Rattle.hsds_cli.proofs.Printing.{three_joined}
use Rattle.hsds_cli.proofs.lines.counts_line.Goals as goal

pub returns : goal.returns
returns c =
    IfOk-weaker c.format.result _ _
    (λ line h. h
    ∙ three_joined (codes "groups ") (decimal c.args.counts.groups) (codes ", datasets ") (decimal c.args.counts.datasets) (codes ", datatypes ") (decimal c.args.counts.datatypes) (10 ∷ []))
    c.format.ensures.ok
