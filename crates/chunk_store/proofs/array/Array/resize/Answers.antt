use Rattle.std.proofs.Common.{true, refl}
use Rattle.shapes.specs.Shapes.{dims_of}
use Rattle.chunk_store.specs.Marks.{keeps}
use Rattle.hdf_types.specs.Views.{elem as kind_of}
use Rattle.chunk_store.proofs.ChangeLemmas.{listed_resized}
use Rattle.chunk_store.proofs.PartLemmas.{resizes_from, frame_sound, kept_resized, stays_inside}
use Rattle.chunk_store.proofs.array.Array.resize.Goals as goal

pub truncate-requires-clause-frame : goal.truncate-requires-clause-frame
truncate-requires-clause-frame c =
    let a = c.self.inside in
    frame_sound (kind_of a.elem) a.shape a.given a.frame a.chunks c.self.invariant.0

pub invariant_of-self : goal.invariant_of-self
invariant_of-self c =
    let a = c.self.inside in (
      kept_resized (kind_of a.elem) a.shape a.given a.frame a.chunks c.self.invariant.0 c.in-Ok.shape c.args.dims.now c.truncate.new.chunks c.in-Ok.ensures.resized (c.in-Ok.ensures.sound c.self.invariant.0.shape c.requires.small) c.truncate.ensures.cells c.truncate.ensures.full c.truncate.ensures.flags,
      listed_resized a.shape a.frame c.in-Ok.shape a.chunks c.truncate.new.chunks a.changes (record a.changes { all = true }) (λ i. keeps i a.frame.layout.chunk (dims_of a.shape) (dims_of c.in-Ok.shape)) refl c.truncate.ensures.flags (stays_inside (kind_of a.elem) a.shape a.given a.frame a.chunks c.self.invariant.0 c.in-Ok.shape c.args.dims.now c.in-Ok.ensures.resized) c.self.invariant.1,
    )

pub returns-clause-done : goal.returns-clause-done
returns-clause-done c =
    let a = c.self.inside in
    (resizes_from (kind_of a.elem) a.shape a.given a.frame a.chunks c.self.invariant.0 c.in-Ok.shape c.args.dims.now c.truncate.new.chunks c.in-Ok.ensures.resized (c.in-Ok.ensures.sound c.self.invariant.0.shape c.requires.small) c.truncate.ensures.cells c.truncate.ensures.full c.truncate.ensures.flags c.args.self.now c.self.view_is).done

pub returns-clause-marks : goal.returns-clause-marks
returns-clause-marks c =
    let a = c.self.inside in
    (resizes_from (kind_of a.elem) a.shape a.given a.frame a.chunks c.self.invariant.0 c.in-Ok.shape c.args.dims.now c.truncate.new.chunks c.in-Ok.ensures.resized (c.in-Ok.ensures.sound c.self.invariant.0.shape c.requires.small) c.truncate.ensures.cells c.truncate.ensures.full c.truncate.ensures.flags c.args.self.now c.self.view_is).marks

pub returns-clause-tracked : goal.returns-clause-tracked
returns-clause-tracked c =
    let a = c.self.inside in
    (resizes_from (kind_of a.elem) a.shape a.given a.frame a.chunks c.self.invariant.0 c.in-Ok.shape c.args.dims.now c.truncate.new.chunks c.in-Ok.ensures.resized (c.in-Ok.ensures.sound c.self.invariant.0.shape c.requires.small) c.truncate.ensures.cells c.truncate.ensures.full c.truncate.ensures.flags c.args.self.now c.self.view_is).tracked
