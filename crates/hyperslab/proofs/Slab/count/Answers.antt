-- As many cells as choices of a number below each extent.
use Rattle.std.proofs.Common.{ap, sym, ◌∙◌, arith}
use Rattle.shapes.specs.RowMajor.{cell_count}
use Rattle.shapes.proofs.RowMajorLemmas.{cell_count-room}
use Rattle.hyperslab.specs.Selected.{axes_of, extents}
use Rattle.hyperslab.proofs.SelectLemmas.{selected_count}
use Rattle.hyperslab.proofs.CellLemmas.{cells_counted}
use Rattle.hyperslab.proofs.Slab.count.Goals as goal

pub returns-clause-listed : goal.returns-clause-listed
returns-clause-listed c = λ dims fits.
    let s = c.args.self.now in
    c.count.ensures.product ∙ c.grid.ensures.cells ∙ ap cell_count c.extents.ensures.divided ∙ sym (selected_count (axes_of s) dims c.requires.sound fits)

pub returns-clause-bounded : goal.returns-clause-bounded
returns-clause-bounded c =
    let counted = c.count.ensures.product ∙ c.grid.ensures.cells ∙ ap cell_count c.extents.ensures.divided in
    omega (arith, counted, cell_count-room (extents c.args.self.now), c.requires.room)

pub returns-clause-cells : goal.returns-clause-cells
returns-clause-cells c = λ shape within.
    let s = c.args.self.now in
    c.count.ensures.product ∙ c.grid.ensures.cells ∙ ap cell_count c.extents.ensures.divided ∙ sym (cells_counted s shape c.requires within)
