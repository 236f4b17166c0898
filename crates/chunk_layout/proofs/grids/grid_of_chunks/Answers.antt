-- On each axis by a quotient that is rounded up.
use Rattle.chunk_layout.proofs.GridLemmas.{covers_shape, grid_begun, begun_grid, corner_chunk, in_grid_rank, small_index}
use Rattle.chunk_layout.proofs.grids.grid_of_chunks.Goals as goal

pub returns-clause-covers : goal.returns-clause-covers
returns-clause-covers c = λ s chunk at a e h. covers_shape s chunk at a e h

pub returns-clause-begun : goal.returns-clause-begun
returns-clause-begun c = λ s chunk index a e f. (λ h. grid_begun s chunk index a e h, λ h. begun_grid s chunk index a f h)

pub returns-clause-corner : goal.returns-clause-corner
returns-clause-corner c = λ chunk index a e. corner_chunk chunk index a e

pub returns-clause-rank : goal.returns-clause-rank
returns-clause-rank c = λ s chunk index e h. in_grid_rank s chunk index e h

pub returns-clause-small : goal.returns-clause-small
returns-clause-small c = λ s chunk index a b h. small_index s chunk index a b h
