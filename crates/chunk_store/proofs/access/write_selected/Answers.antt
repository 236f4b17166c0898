use Rattle.std.proofs.Common.{◌∙◌, sym, subst}
use Rattle.shapes.specs.Shapes.{dims_of}
use Rattle.chunk_store.specs.Buffers.{AreThere}
use Rattle.chunk_store.proofs.AccessLemmas.{some_selected, same_selected}
use Rattle.chunk_store.proofs.access.write_selected.Goals as goal

pub write_slab-requires-clause-rank : goal.write_slab-requires-clause-rank
write_slab-requires-clause-rank c =
    c.requires.rank ∙ (some_selected c.args.slab.now c.args.shape.now c.requires.slab c.requires.inside (λ none. c.if-count-eq0.false (c.count.ensures.product ∙ none))).rank

pub write_slab-requires-clause-there : goal.write_slab-requires-clause-there
write_slab-requires-clause-there c = λ dims fits.
    let b = c.args.slab.now in
    let some = some_selected b c.args.shape.now c.requires.slab c.requires.inside (λ none. c.if-count-eq0.false (c.count.ensures.product ∙ none)) in
    subst (AreThere c.args.chunks.now c.args.frame.now) (sym (same_selected b dims (dims_of c.args.shape.now) c.requires.slab fits some.fits ∙ some.cells)) c.requires.there
