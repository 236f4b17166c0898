-- One linear index, one cell; and the list of all cells has it there.
use Rattle.std.proofs.Common.{[], get_or, sym, ap, ◌∙◌}
use Rattle.shapes.specs.RowMajor.{coordinates}
use Rattle.shapes.proofs.RowMajorLemmas.{index_once, inside_none}
use Rattle.shapes.proofs.GridLemmas.{coordinates-index}
use Rattle.shapes.proofs.row_major.coords_at.Goals as goal

pub returns-in-Simple-clause-once : goal.returns-in-Simple-clause-once
returns-in-Simple-clause-once c =
    rw c.in-Simple.is (λ at lies here. index_once c.coords_in.result at c.in-Simple.dims c.coords_in.ensures.inside lies (c.coords_in.ensures.index ∙ sym here))

pub returns-in-Simple-clause-listed : goal.returns-in-Simple-clause-listed
returns-in-Simple-clause-listed c =
    rw c.in-Simple.is
    (ap (λ n. get_or (coordinates c.in-Simple.dims) n []) (sym c.coords_in.ensures.index) ∙ coordinates-index c.coords_in.result c.in-Simple.dims c.coords_in.ensures.inside)

pub returns-in-Scalar-clause-once : goal.returns-in-Scalar-clause-once
returns-in-Scalar-clause-once c = rw c.in-Scalar.is (λ at lies here. c.new-in-Scalar.ensures ∙ sym (inside_none at lies))
