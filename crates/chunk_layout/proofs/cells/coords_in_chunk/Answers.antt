-- The cell of the chunk and the offset is the one with this chunk and offset.
use Rattle.chunk_layout.proofs.CellLemmas.{cell_rank, cell_chunk, cell_offset}
use Rattle.chunk_layout.proofs.cells.coords_in_chunk.Goals as goal

pub returns-clause-rank : goal.returns-clause-rank
returns-clause-rank c = rw c.stepped.ensures (cell_rank c.args.layout.now.chunk c.args.index.now c.args.offset c.requires.ranks)

pub returns-clause-chunk : goal.returns-clause-chunk
returns-clause-chunk c = rw c.stepped.ensures (cell_chunk c.args.layout.now.chunk c.args.index.now c.args.offset c.requires.chunk.dims c.requires.ranks c.requires.below)

pub returns-clause-offset : goal.returns-clause-offset
returns-clause-offset c = rw c.stepped.ensures (cell_offset c.args.layout.now.chunk c.args.index.now c.args.offset c.requires.chunk.dims c.requires.ranks c.requires.below)
