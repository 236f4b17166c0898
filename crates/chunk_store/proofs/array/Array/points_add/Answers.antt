use Rattle.std.proofs.Common.{◌≡◌, ℕ, List, All, length, refl, sym, ap, subst, ◌∙◌}
use Rattle.hdf_types.specs.Views.{elem as kind_of}
use Rattle.shapes.specs.Shapes.{LiesIn}
use Rattle.chunk_store.specs.Additions.{Adds, AreNew}
use Rattle.chunk_store.specs.Marks.{Stored}
use Rattle.chunk_store.proofs.PartLemmas.{adds_from, frame_sound, rank_in}
use Rattle.chunk_store.proofs.array.Array.points_add.Goals as goal

pub new_in_points-requires-clause-frame : goal.new_in_points-requires-clause-frame
new_in_points-requires-clause-frame c =
    let a = c.self.inside in
    frame_sound (kind_of a.elem) a.shape a.given a.frame a.chunks c.self.invariant.0

pub new_in_points-requires-clause-ranks : goal.new_in_points-requires-clause-ranks
new_in_points-requires-clause-ranks c =
    let a = c.self.inside in
    let inside = subst (λ (x : Stored). All (λ at. LiesIn at x.grid.shape) c.args.points.now) (sym c.self.view_is) c.requires in
    subst (λ (ps : List (List ℕ)). All (λ at. length at ≡ length c.self.inside.frame.layout.chunk) ps) (sym c.as_slice.ensures)
    (λ k d low. rank_in (kind_of a.elem) a.shape a.given a.frame a.chunks c.self.invariant.0 _ (inside k d low))

pub returns : goal.returns
returns c =
    let a = c.self.inside in
    let new = subst (λ (ps : List (List ℕ)). AreNew c.self.inside.chunks c.self.inside.frame.layout.chunk ps c.in_ok-new.new) c.as_slice.ensures c.in_ok-new.ensures in
    subst (λ n. Adds c.args.self.now c.args.points.now n) (sym c.len.ensures.len) (adds_from (kind_of a.elem) a.shape a.given a.frame a.chunks c.self.invariant.0 c.args.self.now c.self.view_is c.args.points.now c.in_ok-new.new new c.len.ensures.ordered)
