-- Coordinates of another rank are not inside.
use Rattle.std.proofs.Common.{◌∙◌, sym}
use Rattle.shapes.proofs.InsideLemmas.{inside_ranked}
use Rattle.shapes.proofs.cells.is_below.Goals as goal

pub returns-then-len : goal.returns-then-len
returns-then-len c = sym (inside_ranked c.args.at.now c.args.dims.now (λ e. c.if-len.true (c.len.ensures.count ∙ e ∙ sym c.len-2.ensures.count)))
