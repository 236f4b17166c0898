use Rattle.std.proofs.Common.{subst, sym, ◌∙◌}
use Rattle.shapes.specs.Shapes.{dims_of}
use Rattle.chunk_store.specs.Additions.{AreNew}
use Rattle.chunk_store.proofs.AccessLemmas.{if_ok, some_selected}
use Rattle.chunk_store.proofs.AdditionLemmas.{no_cells_new}
use Rattle.hyperslab.specs.Selected.{slab_cells}
use Rattle.chunk_store.proofs.access.new_selected.Goals as goal

pub returns-then-count-eq0 : goal.returns-then-count-eq0
returns-then-count-eq0 c = no_cells_new c.args.chunks.now c.args.frame.now.layout.chunk (slab_cells c.args.slab.now c.args.shape.now) c.new.result (sym c.if-count-eq0.true ∙ c.count.ensures.cells c.args.shape.now c.requires.inside) c.new.ensures.empty

pub new_in_slab-requires-clause-rank : goal.new_in_slab-requires-clause-rank
new_in_slab-requires-clause-rank c =
    c.requires.rank ∙ (some_selected c.args.slab.now c.args.shape.now c.requires.slab c.requires.inside (λ none. c.if-count-eq0.false (c.count.ensures.product ∙ none))).rank

pub returns : goal.returns
returns c =
    let some = some_selected c.args.slab.now c.args.shape.now c.requires.slab c.requires.inside (λ none. c.if-count-eq0.false (c.count.ensures.product ∙ none)) in
    if_ok c.new_in_slab.result (λ new told. subst (λ ats. AreNew c.args.chunks.now c.args.frame.now.layout.chunk ats new) some.cells (told (dims_of c.args.shape.now) some.fits)) c.new_in_slab.ensures
