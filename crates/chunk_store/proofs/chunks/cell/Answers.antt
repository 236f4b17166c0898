use Rattle.std.proofs.Common.{sym, ◌∙◌}
use Rattle.chunk_layout.proofs.CellLemmas.{chunk_listed}
use Rattle.chunk_store.proofs.chunks.cell.Goals as goal

pub returns-clause-at : goal.returns-clause-at
returns-clause-at c = chunk_listed c.args.layout.now.chunk c.args.index.now c.args.k c.requires.chunk.dims c.requires.below ∙ sym c.coords_in_chunk.ensures.cell
