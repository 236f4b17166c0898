use Rattle.std.proofs.Common.{ap, sym, ◌∙◌, arith, ◌-◌, get_or, []}
use Rattle.chunk_layout.specs.Chunks.{chunk_cells}
use Rattle.shapes.proofs.ChunkDimLemmas.{one_cell}
use Rattle.chunk_store.proofs.ChunkLemmas.{last_lies}
use Rattle.chunk_store.proofs.chunks.is_within.Goals as goal

pub overflow_sub-last : goal.overflow_sub-last
overflow_sub-last c = omega (arith, one_cell c.args.layout.now.chunk c.requires.chunk.dims, c.cell_number-last.ensures)

pub cell-requires-clause-below : goal.cell-requires-clause-below
cell-requires-clause-below c = omega (arith, one_cell c.args.layout.now.chunk c.requires.chunk.dims, c.cell_number-last.ensures)

pub returns : goal.returns
returns c = λ said.
    let chunk = c.args.layout.now.chunk in
    let i = c.args.index.now in
    last_lies c.args.shape.now chunk i c.cell.result c.requires.chunk.dims (ap (λ n. get_or (chunk_cells i chunk) (n - 1) []) (sym c.cell_number-last.ensures) ∙ c.cell.ensures.at) (sym c.contains.ensures.tested ∙ said)
