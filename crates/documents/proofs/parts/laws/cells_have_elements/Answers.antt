use Rattle.std.proofs.Common.{ℕ, List, sym, subst}
use Rattle.shapes.specs.RowMajor.{linear_index}
use Rattle.shapes.specs.Shapes.{cells_of, count_of, dims_of}
use Rattle.chunk_store.specs.Listed.{IsLast}
use Rattle.chunk_store.specs.Picked.{cells_from}
use Rattle.documents.proofs.OfParts.IndexLemmas.{all_cells, last_there}
use Rattle.documents.proofs.parts.laws.cells_have_elements.Goals as goal

pub returns : goal.returns
returns c = λ g bytes at inside.
    let s = g.shape in
    let k : ℕ = linear_index at (dims_of s) in
    let cells = c.cells_are_inside.ensures in
    let indices = c.indices_number_the_cells.ensures in
    let last : IsLast (cells_of s) k at = last_there s at (cells.counted s) (cells.once s) (indices.below s at inside) (indices.cell s at inside) in
    c.cells_after_calls.ensures.last g (cells_from 0 (count_of s) s) bytes k at inside
    (subst (λ (ats : List (List ℕ)). IsLast ats k at) (sym (all_cells s (cells.counted s))) last)
