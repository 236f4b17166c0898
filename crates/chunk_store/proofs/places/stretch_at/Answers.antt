use Rattle.std.proofs.Common.{min, ap, ◌∙◌}
use Rattle.chunk_store.specs.Picked.{cells_from}
use Rattle.chunk_store.specs.Stretches.{row_left}
use Rattle.chunk_store.proofs.RowLemmas.{row_stretch, stretch_room}
use Rattle.chunk_store.proofs.places.stretch_at.Goals as goal

pub returns-clause-cells : goal.returns-clause-cells
returns-clause-cells c =
    row_stretch c.args.shape.now c.args.layout.now.chunk c.coords_at-at.result c.args.linear_index c.args.left _ c.requires.chunk c.requires.rank c.coords_at-at.ensures.inside c.coords_at-at.ensures.index c.chunk_of.ensures
    c.offset_in.ensures.offset (c.min.ensures ∙ ap (λ n. min n c.args.left) (c.in_row.ensures ∙ ap (λ d. row_left c.coords_at-at.result d c.args.layout.now.chunk) c.dims.ensures)) c.requires.some c.requires.inside

pub returns-clause-room : goal.returns-clause-room
returns-clause-room c =
    stretch_room c.args.layout.now.chunk _ (cells_from c.args.linear_index c.min.result c.args.shape.now) c.requires.chunk
    (row_stretch c.args.shape.now c.args.layout.now.chunk c.coords_at-at.result c.args.linear_index c.args.left (record { index = c.chunk_of.result; offset = c.offset_in.result; len = c.min.result }) c.requires.chunk c.requires.rank c.coords_at-at.ensures.inside c.coords_at-at.ensures.index c.chunk_of.ensures
    c.offset_in.ensures.offset (c.min.ensures ∙ ap (λ n. min n c.args.left) (c.in_row.ensures ∙ ap (λ d. row_left c.coords_at-at.result d c.args.layout.now.chunk) c.dims.ensures)) c.requires.some c.requires.inside)
