use Rattle.std.proofs.Common.{length, sym, subst}
use Rattle.hdf_types.specs.Views.{elem as kind_of}
use Rattle.hdf_values.specs.Nested.{AreEncoded}
use Rattle.chunk_store.specs.Marks.{Stored}
use Rattle.chunk_store.specs.Picked.{picked, PicksIn}
use Rattle.chunk_store.proofs.ChangeLemmas.{listed_same, listed_written}
use Rattle.chunk_store.proofs.PartLemmas.{frame_sound, touched_cell, kept_grown, kept_same, kept_written, same_grid, same_marks, same_tracks, writes_from}
use Rattle.chunk_store.proofs.PickLemmas.{picked_inside}
use Rattle.chunk_store.proofs.array.Array.write.Goals as goal
use Rattle.containers.proofs.Plain.{on_err}

pub hold-requires-clause-frame : goal.hold-requires-clause-frame
hold-requires-clause-frame c =
    let a = c.self.inside in
    frame_sound (kind_of a.elem) a.shape a.given a.frame a.chunks c.self.invariant.0

pub invariant_of-self : goal.invariant_of-self
invariant_of-self c =
    let a = c.self.inside in (
      kept_same (kind_of a.elem) a.shape a.given a.frame a.chunks c.self.invariant.0 c.hold.new.chunks c.in_err-hold.ensures.kept,
      listed_same a.shape a.frame a.chunks c.hold.new.chunks a.changes c.hold.new.changes c.in_err-hold.ensures.kept c.hold.ensures.keeps c.self.invariant.1,
    )

pub returns-in_err-hold-clause-kept : goal.returns-in_err-hold-clause-kept
returns-in_err-hold-clause-kept c =
    let a = c.self.inside in
    on_err c.from_residual.result (same_grid (kind_of a.elem) a.shape a.given a.frame a.chunks c.self.invariant.0 c.args.self.now c.self.view_is c.hold.new.chunks c.in_err-hold.ensures.kept)

pub returns-in_err-hold-clause-unmarked : goal.returns-in_err-hold-clause-unmarked
returns-in_err-hold-clause-unmarked c =
    let a = c.self.inside in
    on_err c.from_residual.result (same_marks (kind_of a.elem) a.shape a.given a.frame a.chunks c.self.invariant.0 c.args.self.now c.self.view_is c.hold.new.chunks c.in_err-hold.ensures.kept)

pub returns-in_err-hold-clause-tracked : goal.returns-in_err-hold-clause-tracked
returns-in_err-hold-clause-tracked c =
    let a = c.self.inside in
    same_tracks (kind_of a.elem) a.shape a.given a.frame a.chunks c.self.invariant.0 c.args.self.now c.self.view_is c.hold.new.chunks c.in_err-hold.ensures.kept

pub write-requires-clause-frame : goal.write-requires-clause-frame
write-requires-clause-frame c =
    let a = c.self.inside in
    frame_sound (kind_of a.elem) a.shape a.given a.frame a.chunks c.self.invariant.0

pub invariant_of-self-2 : goal.invariant_of-self-2
invariant_of-self-2 c =
    let a = c.self.inside in
    let p = c.args.picks.now in
    let each = picked_inside p a.shape (subst (λ (x : Stored). PicksIn c.args.picks.now x.grid.shape) (sym c.self.view_is) c.requires.picks) in (
      kept_written (kind_of a.elem) a.shape a.given a.frame c.hold.new.chunks (kept_grown (kind_of a.elem) a.shape a.given a.frame a.chunks c.self.invariant.0 (picked p a.shape) c.hold.new.chunks each c.in_ok-hold.ensures.grown)
          (picked p a.shape) c.args.bytes.now c.write.new.chunks each c.write.ensures (subst (λ (x : Stored). AreEncoded x.grid.kind (length (picked p x.grid.shape)) c.args.bytes.now) (sym c.self.view_is) c.requires.encoded),
      listed_written a.shape a.frame a.chunks c.hold.new.chunks c.write.new.chunks a.changes c.hold.new.changes (picked p a.shape) (touched_cell (kind_of a.elem) a.shape a.given a.frame a.chunks c.self.invariant.0 (picked p a.shape) each) c.in_ok-hold.ensures.grown.noted c.write.ensures.flags c.in_ok-hold.ensures.listed c.hold.ensures.keeps c.self.invariant.1,
    )

pub returns-clause-done : goal.returns-clause-done
returns-clause-done c =
    let a = c.self.inside in
    (writes_from (kind_of a.elem) a.shape a.given a.frame a.chunks c.self.invariant.0 c.args.picks.now c.args.bytes.now c.hold.new.chunks c.write.new.chunks (subst (λ (x : Stored). PicksIn c.args.picks.now x.grid.shape) (sym c.self.view_is) c.requires.picks) c.in_ok-hold.ensures.grown c.write.ensures c.args.self.now c.self.view_is).done

pub returns-clause-marks : goal.returns-clause-marks
returns-clause-marks c =
    let a = c.self.inside in
    (writes_from (kind_of a.elem) a.shape a.given a.frame a.chunks c.self.invariant.0 c.args.picks.now c.args.bytes.now c.hold.new.chunks c.write.new.chunks (subst (λ (x : Stored). PicksIn c.args.picks.now x.grid.shape) (sym c.self.view_is) c.requires.picks) c.in_ok-hold.ensures.grown c.write.ensures c.args.self.now c.self.view_is).marks

pub returns-clause-tracked : goal.returns-clause-tracked
returns-clause-tracked c =
    let a = c.self.inside in
    (writes_from (kind_of a.elem) a.shape a.given a.frame a.chunks c.self.invariant.0 c.args.picks.now c.args.bytes.now c.hold.new.chunks c.write.new.chunks (subst (λ (x : Stored). PicksIn c.args.picks.now x.grid.shape) (sym c.self.view_is) c.requires.picks) c.in_ok-hold.ensures.grown c.write.ensures c.args.self.now c.self.view_is).tracked
