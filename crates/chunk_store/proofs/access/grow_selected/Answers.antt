use Rattle.std.proofs.Common.{subst, ◌∙◌}
use Rattle.std.proofs.lemmas.Result.{on_ok_weaker}
use Rattle.shapes.specs.Shapes.{dims_of}
use Rattle.chunk_store.specs.Buffers.{AreThere, IsGrown}
use Rattle.chunk_store.proofs.AccessLemmas.{some_selected}
use Rattle.chunk_store.proofs.access.grow_selected.Goals as goal

pub grow_slab-requires-clause-rank : goal.grow_slab-requires-clause-rank
grow_slab-requires-clause-rank c =
    c.requires.rank ∙ (some_selected c.args.slab.now c.args.shape.now c.requires.slab c.requires.inside (λ none. c.if-count-eq0.false (c.count.ensures.product ∙ none))).rank

pub returns-clause-there : goal.returns-clause-there
returns-clause-there c =
    let some = some_selected c.args.slab.now c.args.shape.now c.requires.slab c.requires.inside (λ none. c.if-count-eq0.false (c.count.ensures.product ∙ none)) in
    on_ok_weaker c.grow_slab.result (λ told. subst (AreThere c.grow_slab.new.chunks c.args.frame.now) some.cells (told (dims_of c.args.shape.now) some.fits)) c.grow_slab.ensures.there

pub returns-clause-grown : goal.returns-clause-grown
returns-clause-grown c =
    let some = some_selected c.args.slab.now c.args.shape.now c.requires.slab c.requires.inside (λ none. c.if-count-eq0.false (c.count.ensures.product ∙ none)) in
    on_ok_weaker c.grow_slab.result (λ told. subst (IsGrown c.args.chunks.now c.grow_slab.new.chunks c.args.frame.now) some.cells (told (dims_of c.args.shape.now) some.fits)) c.grow_slab.ensures.grown

pub returns-clause-listed : goal.returns-clause-listed
returns-clause-listed c =
    let some = some_selected c.args.slab.now c.args.shape.now c.requires.slab c.requires.inside (λ none. c.if-count-eq0.false (c.count.ensures.product ∙ none)) in
    on_ok_weaker c.grow_slab.result (λ told. subst (AreThere c.grow_slab.new.changes.listed c.args.frame.now) some.cells (told (dims_of c.args.shape.now) some.fits)) c.grow_slab.ensures.listed
