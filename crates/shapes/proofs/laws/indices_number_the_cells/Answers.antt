use Rattle.shapes.proofs.CellLemmas.{index-cell, cell-index, index_counted, digits-coords, cell_order}
use Rattle.shapes.proofs.laws.indices_number_the_cells.Goals as goal

pub returns-clause-index : goal.returns-clause-index
returns-clause-index c = index-cell

pub returns-clause-cell : goal.returns-clause-cell
returns-clause-cell c = cell-index

pub returns-clause-below : goal.returns-clause-below
returns-clause-below c = index_counted

pub returns-clause-digits : goal.returns-clause-digits
returns-clause-digits c = digits-coords

pub returns-clause-ordered : goal.returns-clause-ordered
returns-clause-ordered c = cell_order
