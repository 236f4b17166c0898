-- A cell's linear index is below the number of cells, and the list of all cells has the cell there.
use Rattle.std.proofs.Common.{◌≡◌, [], get_or, sym, ap, ◌∙◌, arith}
use Rattle.shapes.specs.RowMajor.{coordinates, linear_index, IsInside, cell_count}
use Rattle.shapes.specs.Shapes.{IsSoundGrid}
use Rattle.shapes.proofs.RowMajorLemmas.{cell_count-room, index_below, inside_none, index_none}
use Rattle.shapes.proofs.GridLemmas.{coordinates-index}
use Rattle.shapes.proofs.row_major.place_of.Goals as goal

pub linear_index_in-requires-clause-room : goal.linear_index_in-requires-clause-room
linear_index_in-requires-clause-room c =
    let sound : IsSoundGrid c.in-Simple.dims c.in-Simple.maxdims = rw c.in-Simple.is at c.requires.sound in
    omega (arith, ap cell_count c.as_slice.ensures, cell_count-room c.in-Simple.dims, sound.fitting.room)

pub returns-in-Scalar-clause-index : goal.returns-in-Scalar-clause-index
returns-in-Scalar-clause-index c = rw c.in-Scalar.is (index_none c.args.at.now)

pub returns-in-Scalar-clause-listed : goal.returns-in-Scalar-clause-listed
returns-in-Scalar-clause-listed c =
    let inside : IsInside c.args.at.now [] = rw c.in-Scalar.is at c.requires.inside in
    rw c.in-Scalar.is (sym (inside_none c.args.at.now inside))

pub returns-in-Simple-clause-below : goal.returns-in-Simple-clause-below
returns-in-Simple-clause-below c =
    let inside : IsInside c.args.at.now c.in-Simple.dims = rw c.in-Simple.is at c.requires.inside in
    let here : c.linear_index_in.result ≡ linear_index c.args.at.now c.in-Simple.dims = c.linear_index_in.ensures ∙ ap (λ xs. linear_index xs c.as_slice.result.now) c.as_slice-in-Simple.ensures ∙ ap (linear_index c.args.at.now) c.as_slice.ensures in
    rw c.in-Simple.is (omega (arith, here, index_below c.args.at.now c.in-Simple.dims inside))

pub returns-in-Simple-clause-listed : goal.returns-in-Simple-clause-listed
returns-in-Simple-clause-listed c =
    let inside : IsInside c.args.at.now c.in-Simple.dims = rw c.in-Simple.is at c.requires.inside in
    let here : c.linear_index_in.result ≡ linear_index c.args.at.now c.in-Simple.dims = c.linear_index_in.ensures ∙ ap (λ xs. linear_index xs c.as_slice.result.now) c.as_slice-in-Simple.ensures ∙ ap (linear_index c.args.at.now) c.as_slice.ensures in
    rw c.in-Simple.is (ap (λ n. get_or (coordinates c.in-Simple.dims) n []) here ∙ coordinates-index c.args.at.now c.in-Simple.dims inside)
