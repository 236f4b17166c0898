use Rattle.std.proofs.Common.{sym, subst}
use Rattle.hdf_types.specs.Views.{elem as kind_of}
use Rattle.hyperslab.specs.Selected.{slab_cells}
use Rattle.chunk_store.specs.Additions.{Adds, AreNew}
use Rattle.chunk_store.specs.Marks.{Stored}
use Rattle.chunk_store.proofs.PartLemmas.{adds_from, frame_sound}
use Rattle.chunk_store.proofs.array.Array.slab_adds.Goals as goal

pub new_selected-requires-clause-frame : goal.new_selected-requires-clause-frame
new_selected-requires-clause-frame c =
    let a = c.self.inside in
    frame_sound (kind_of a.elem) a.shape a.given a.frame a.chunks c.self.invariant.0

pub returns : goal.returns
returns c =
    let a = c.self.inside in
    let new = subst (λ (x : Stored). AreNew c.self.inside.chunks c.self.inside.frame.layout.chunk (slab_cells c.args.slab.now x.grid.shape) c.in_ok-new.new) c.self.view_is c.in_ok-new.ensures in
    subst (λ n. Adds c.args.self.now (slab_cells c.args.slab.now c.args.self.now.grid.shape) n) (sym c.len.ensures.len)
    (adds_from (kind_of a.elem) a.shape a.given a.frame a.chunks c.self.invariant.0 c.args.self.now c.self.view_is (slab_cells c.args.slab.now c.args.self.now.grid.shape) c.in_ok-new.new new c.len.ensures.ordered)
