use Rattle.std.proofs.Common.{◌∙◌, [], ◌∷◌, codes}
use Rattle.std.specs.Prelude.{decimal}
use Rattle.std.proofs.lemmas.Result.{IfOk-weaker}
use Rattle.hsds_cli.proofs.Printing.{three_joined}
use Rattle.hsds_cli.proofs.lines.made_line.Goals as goal

pub returns : goal.returns
returns c =
    IfOk-weaker c.format.result _ _
    (λ line h. h ∙ three_joined (codes "lanes ") (decimal c.args.lanes) (codes ", folders ") (decimal c.args.folders) (codes ", domains ") (decimal c.args.domains) (10 ∷ []))
    c.format.ensures.ok
