use Rattle.std.proofs.Common.{◌≡◌, ◌∙◌, ℕ, List, [], ◌∷◌, ◌++◌, codes, append_assoc}
use Rattle.std.specs.Prelude.{decimal}
use Rattle.std.proofs.lemmas.Result.{IfOk-weaker}
use Rattle.hsds_cli.proofs.lines.report_line.Goals as goal

-- the parts of the line, as `format!` joins them
joined : (l a m b n d o f p g e : List ℕ)
    → l ++ (a ++ (m ++ (b ++ (n ++ (d ++ (o ++ (f ++ (p ++ (g ++ e))))))))) ≡ (((((((((l ++ a) ++ m) ++ b) ++ n) ++ d) ++ o) ++ f) ++ p) ++ g) ++ e
joined l a m b n d o f p g e = simp append_assoc

pub returns : goal.returns
returns c =
    IfOk-weaker c.format.result _ _
    (λ line h. h
    ∙ joined (codes "version ") (decimal c.args.report.version) (codes ", lanes ") (decimal c.args.report.lanes) (codes ", run ") (decimal c.args.run) (codes ", batches ") (decimal c.args.report.batches)
    (codes ", end ") (decimal c.args.report.end) (10 ∷ []))
    c.format.ensures.ok
