use Rattle.std.proofs.Common.{List, ℕ, length, sym, subst, ◌∙◌}
use Rattle.hdf_types.specs.Views.{elem as kind_of}
use Rattle.hdf_values.specs.Nested.{AreEncoded}
use Rattle.chunk_store.specs.Marks.{Stored}
use Rattle.chunk_store.specs.Picked.{picked, PicksIn}
use Rattle.chunk_store.proofs.PartLemmas.{frame_sound, grid_whole, picks_read, reads_encoded}
use Rattle.chunk_store.proofs.array.Array.read.Goals as goal

pub read-requires-clause-frame : goal.read-requires-clause-frame
read-requires-clause-frame c =
    let a = c.self.inside in
    frame_sound (kind_of a.elem) a.shape a.given a.frame a.chunks c.self.invariant.0

pub returns-clause-bytes : goal.returns-clause-bytes
returns-clause-bytes c =
    let a = c.self.inside in
    c.in_ok-bytes.ensures ∙ picks_read (kind_of a.elem) a.shape a.given a.frame a.chunks c.self.invariant.0 c.args.self.now c.self.view_is c.args.picks.now (subst (λ (x : Stored). PicksIn c.args.picks.now x.grid.shape) (sym c.self.view_is) c.requires)

pub returns-clause-encoded : goal.returns-clause-encoded
returns-clause-encoded c =
    let a = c.self.inside in
    let read =
    c.in_ok-bytes.ensures ∙ picks_read (kind_of a.elem) a.shape a.given a.frame a.chunks c.self.invariant.0 c.args.self.now c.self.view_is c.args.picks.now (subst (λ (x : Stored). PicksIn c.args.picks.now x.grid.shape) (sym c.self.view_is) c.requires) in
    subst (λ (bs : List ℕ). AreEncoded c.args.self.now.grid.kind (length (picked c.args.picks.now c.args.self.now.grid.shape)) bs) (sym read)
    (reads_encoded c.args.self.now.grid c.args.picks.now (grid_whole (kind_of a.elem) a.shape a.given a.frame a.chunks c.self.invariant.0 c.args.self.now c.self.view_is) c.requires)
