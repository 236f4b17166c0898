-- The one index of a shape without an axis is the empty one.
use Rattle.chunk_layout.proofs.GridLemmas.{scalar_grid}
use Rattle.chunk_layout.proofs.grids.is_in_grid.Goals as goal

pub returns-in-Scalar : goal.returns-in-Scalar
returns-in-Scalar c = scalar_grid c.args.shape.now c.is_empty.result c.args.index.now c.args.layout.now.chunk c.in-Scalar.is c.is_empty.ensures
