use Rattle.hdf_types.specs.Views.{elem as kind_of}
use Rattle.chunk_store.proofs.ChangeLemmas.{listed_cleared}
use Rattle.chunk_store.proofs.PartLemmas.{chunk_sound, clears_from, kept_cleared}
use Rattle.chunk_store.proofs.array.Array.clear_dirty.Goals as goal

pub clear_flags-requires-clause-chunk : goal.clear_flags-requires-clause-chunk
clear_flags-requires-clause-chunk c =
    let a = c.self.inside in
    chunk_sound (kind_of a.elem) a.shape a.given a.frame a.chunks c.self.invariant.0

pub invariant_of-self : goal.invariant_of-self
invariant_of-self c =
    let a = c.self.inside in (
      kept_cleared (kind_of a.elem) a.shape a.given a.frame a.chunks c.self.invariant.0 c.clear_flags.new.chunks c.clear_flags.ensures,
      listed_cleared a.shape a.frame a.chunks c.clear_flags.new.chunks a.changes c.clear_flags.new.changes c.clear_flags.ensures c.self.invariant.1,
    )

pub returns-clause-same : goal.returns-clause-same
returns-clause-same c =
    let a = c.self.inside in
    (clears_from (kind_of a.elem) a.shape a.given a.frame a.chunks c.self.invariant.0 c.clear_flags.new.chunks c.clear_flags.ensures c.args.self.now c.self.view_is).same

pub returns-clause-marks : goal.returns-clause-marks
returns-clause-marks c =
    let a = c.self.inside in
    (clears_from (kind_of a.elem) a.shape a.given a.frame a.chunks c.self.invariant.0 c.clear_flags.new.chunks c.clear_flags.ensures c.args.self.now c.self.view_is).marks

pub returns-clause-tracked : goal.returns-clause-tracked
returns-clause-tracked c =
    let a = c.self.inside in
    (clears_from (kind_of a.elem) a.shape a.given a.frame a.chunks c.self.invariant.0 c.clear_flags.new.chunks c.clear_flags.ensures c.args.self.now c.self.view_is).tracked
