use Rattle.chunk_store.proofs.ChunkLemmas.{grid_test}
use Rattle.chunk_store.proofs.chunks.has_cell.Goals as goal

pub returns : goal.returns
returns c = grid_test c.args.shape.now c.args.layout.now.chunk c.args.index.now c.is_in_grid.result c.requires.chunk.dims c.requires.rank c.is_in_grid.ensures
