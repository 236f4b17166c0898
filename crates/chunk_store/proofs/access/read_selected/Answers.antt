use Rattle.std.proofs.Common.{ap, ◌∙◌}
use Rattle.std.specs.List.{flat_map}
use Rattle.shapes.specs.Shapes.{dims_of}
use Rattle.chunk_store.specs.Buffers.{bytes_at}
use Rattle.chunk_store.proofs.AccessLemmas.{if_ok, some_selected}
use Rattle.chunk_store.proofs.access.read_selected.Goals as goal

pub read_slab-requires-clause-rank : goal.read_slab-requires-clause-rank
read_slab-requires-clause-rank c =
    c.requires.rank ∙ (some_selected c.args.slab.now c.args.shape.now c.requires.slab c.requires.inside (λ none. c.if-count-eq0.false (c.count.ensures.product ∙ none))).rank

pub returns : goal.returns
returns c =
    let some = some_selected c.args.slab.now c.args.shape.now c.requires.slab c.requires.inside (λ none. c.if-count-eq0.false (c.count.ensures.product ∙ none)) in
    if_ok c.read_slab.result (λ v told. told (dims_of c.args.shape.now) some.fits ∙ ap (flat_map (bytes_at c.args.chunks.now c.args.frame.now)) some.cells) c.read_slab.ensures
