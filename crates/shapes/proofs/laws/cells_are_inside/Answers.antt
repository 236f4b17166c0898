use Rattle.shapes.proofs.InsideLemmas.{inside_told, inside_read, lies_told, lies_read}
use Rattle.shapes.proofs.CellLemmas.{cells_inside, cells_length, count_small, cell_once}
use Rattle.shapes.proofs.laws.cells_are_inside.Goals as goal

pub returns-clause-tested : goal.returns-clause-tested
returns-clause-tested c = λ at dims. (inside_told at dims, inside_read at dims)

pub returns-clause-lies : goal.returns-clause-lies
returns-clause-lies c = λ at s. (lies_told at s, lies_read at s)

pub returns-clause-inside : goal.returns-clause-inside
returns-clause-inside c = cells_inside

pub returns-clause-counted : goal.returns-clause-counted
returns-clause-counted c = cells_length

pub returns-clause-few : goal.returns-clause-few
returns-clause-few c = count_small

pub returns-clause-once : goal.returns-clause-once
returns-clause-once c = cell_once
