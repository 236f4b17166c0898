-- As many cells as coordinates, and no more than a shape has room for.
use Rattle.std.proofs.Common.{◌≡◌, sym, ap, ◌∙◌, arith}
use Rattle.shapes.specs.RowMajor.{cell_count}
use Rattle.shapes.specs.Shapes.{IsSoundGrid}
use Rattle.shapes.proofs.RowMajorLemmas.{cell_count-room}
use Rattle.shapes.proofs.GridLemmas.{length-coordinates}
use Rattle.shapes.proofs.row_major.count.Goals as goal

pub returns-in-Simple-clause-listed : goal.returns-in-Simple-clause-listed
returns-in-Simple-clause-listed c = rw c.in-Simple.is (c.cells.ensures ∙ ap cell_count c.as_slice.ensures ∙ sym (length-coordinates c.in-Simple.dims))

pub returns-in-Simple-clause-bounded : goal.returns-in-Simple-clause-bounded
returns-in-Simple-clause-bounded c =
    let sound : IsSoundGrid c.in-Simple.dims c.in-Simple.maxdims = rw c.in-Simple.is at c.requires in
    let counted : c.cells.result ≡ cell_count c.in-Simple.dims = c.cells.ensures ∙ ap cell_count c.as_slice.ensures in
    omega (arith, counted, cell_count-room c.in-Simple.dims, sound.fitting.room)
