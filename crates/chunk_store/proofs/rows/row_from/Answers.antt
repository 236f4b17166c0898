use Rattle.std.proofs.Common.{ℕ, List, min, sym, ap, ◌∙◌}
use Rattle.chunk_store.specs.Rows.{left_below}
use Rattle.chunk_store.proofs.ChunkRowLemmas.{row_none, row_some}
use Rattle.chunk_store.proofs.rows.row_from.Goals as goal

pub returns-then-not-contains : goal.returns-then-not-contains
returns-then-not-contains c =
    row_none c.args.layout.now.chunk c.args.index.now c.coords_in_chunk-at.result c.args.offset c.requires.chunk.dims c.coords_in_chunk-at.ensures.rank c.coords_in_chunk-at.ensures.chunk c.coords_in_chunk-at.ensures.offset c.args.shape.now c.left_in_chunk-len.result c.left_in_chunk-len.ensures
    (sym c.contains.ensures.tested ∙ c.if-not-contains.true)

pub returns : goal.returns
returns c =
    row_some c.args.layout.now.chunk c.args.index.now c.coords_in_chunk-at.result c.args.offset c.requires.chunk.dims c.coords_in_chunk-at.ensures.rank c.coords_in_chunk-at.ensures.chunk c.coords_in_chunk-at.ensures.offset c.args.shape.now c.left_in_chunk-len.result _ c.left_in_chunk-len.ensures
    (c.min-inside.ensures ∙ ap (λ n. min n c.left_in_chunk-len.result) (c.left_in_shape.ensures ∙ ap (λ (ds : List ℕ). left_below c.coords_in_chunk-at.result ds) c.dims.ensures)) (sym c.contains.ensures.tested ∙ c.if-not-contains.false)
