-- By quotients and remainders on each axis.
use Rattle.chunk_layout.proofs.CellLemmas.{offset_below, one_cell_there, cell_rank, cell_chunk, cell_offset, cell_back, chunk_count, chunk_listed}
use Rattle.chunk_layout.proofs.cells.chunk_and_offset.Goals as goal

pub returns-clause-below : goal.returns-clause-below
returns-clause-below c = λ chunk at h e. offset_below at chunk h.dims e

pub returns-clause-one : goal.returns-clause-one
returns-clause-one c = λ chunk xs ys h e f q o. one_cell_there chunk xs ys h.dims e f q o

pub returns-clause-rank : goal.returns-clause-rank
returns-clause-rank c = λ chunk index offset e. cell_rank chunk index offset e

pub returns-clause-chunk : goal.returns-clause-chunk
returns-clause-chunk c = λ chunk index offset h e l. cell_chunk chunk index offset h.dims e l

pub returns-clause-offset : goal.returns-clause-offset
returns-clause-offset c = λ chunk index offset h e l. cell_offset chunk index offset h.dims e l

pub returns-clause-back : goal.returns-clause-back
returns-clause-back c = λ chunk at h e. cell_back chunk at h.dims e

pub returns-clause-count : goal.returns-clause-count
returns-clause-count c = λ chunk index. chunk_count chunk index

pub returns-clause-listed : goal.returns-clause-listed
returns-clause-listed c = λ chunk index k h l. chunk_listed chunk index k h.dims l
