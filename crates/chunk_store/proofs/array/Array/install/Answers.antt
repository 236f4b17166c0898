use Rattle.std.proofs.Common.{List, ℕ, false, refl, subst}
use Rattle.hdf_types.specs.Views.{elem as kind_of}
use Rattle.chunk_store.specs.Marks.{IsChunkOf}
use Rattle.chunk_store.proofs.ChangeLemmas.{listed_put, listed_same}
use Rattle.chunk_store.proofs.PartLemmas.{chunk_back, installs_from, kept_put, kept_same, same_grid, same_marks}
use Rattle.chunk_store.proofs.array.Array.install.Goals as goal
use Rattle.containers.proofs.Plain.{on_err}

pub invariant_of-self : goal.invariant_of-self
invariant_of-self c =
    let a = c.self.inside in (
      kept_same (kind_of a.elem) a.shape a.given a.frame a.chunks c.self.invariant.0 c.put_chunk.new.chunks c.in_err-put_chunk.ensures.kept,
      listed_same a.shape a.frame a.chunks c.put_chunk.new.chunks a.changes a.changes c.in_err-put_chunk.ensures.kept (record { all = refl; more = λ i there. there }) c.self.invariant.1,
    )

pub returns-in_err-put_chunk-clause-kept : goal.returns-in_err-put_chunk-clause-kept
returns-in_err-put_chunk-clause-kept c =
    let a = c.self.inside in
    on_err c.from_residual.result (same_grid (kind_of a.elem) a.shape a.given a.frame a.chunks c.self.invariant.0 c.args.self.now c.self.view_is c.put_chunk.new.chunks c.in_err-put_chunk.ensures.kept)

pub returns-in_err-put_chunk-clause-unmarked : goal.returns-in_err-put_chunk-clause-unmarked
returns-in_err-put_chunk-clause-unmarked c =
    let a = c.self.inside in
    on_err c.from_residual.result (same_marks (kind_of a.elem) a.shape a.given a.frame a.chunks c.self.invariant.0 c.args.self.now c.self.view_is c.put_chunk.new.chunks c.in_err-put_chunk.ensures.kept)

pub invariant_of-self-2 : goal.invariant_of-self-2
invariant_of-self-2 c =
    let a = c.self.inside in (
      kept_put (kind_of a.elem) a.shape a.given a.frame a.chunks c.self.invariant.0 c.args.index.now c.args.bytes c.put_chunk.new.chunks
          (chunk_back (kind_of a.elem) a.shape a.given a.frame a.chunks c.self.invariant.0 c.args.self.now c.self.view_is c.args.index.now c.args.bytes.items (subst (λ (bs : List ℕ). IsChunkOf c.args.self.now.grid c.args.index.now bs) c.as_slice.ensures.value (c.is_chunk.ensures.0 c.if-not-is_chunk.false))) c.in_ok-put_chunk.ensures.done,
      listed_put a.shape a.frame a.chunks c.put_chunk.new.chunks a.changes c.args.index.now (record { bytes = c.args.bytes; dirty = false }) refl (chunk_back (kind_of a.elem) a.shape a.given a.frame a.chunks c.self.invariant.0 c.args.self.now c.self.view_is c.args.index.now c.args.bytes.items (subst (λ (bs : List ℕ). IsChunkOf c.args.self.now.grid c.args.index.now bs) c.as_slice.ensures.value (c.is_chunk.ensures.0 c.if-not-is_chunk.false))).inside c.in_ok-put_chunk.ensures.done c.self.invariant.1,
    )

pub returns-clause-done : goal.returns-clause-done
returns-clause-done c =
    let a = c.self.inside in
    (installs_from (kind_of a.elem) a.shape a.given a.frame a.chunks c.self.invariant.0 c.args.self.now c.self.view_is c.args.index.now c.args.bytes c.put_chunk.new.chunks (subst (λ (bs : List ℕ). IsChunkOf c.args.self.now.grid c.args.index.now bs) c.as_slice.ensures.value (c.is_chunk.ensures.0 c.if-not-is_chunk.false)) c.in_ok-put_chunk.ensures.done).done

pub returns-clause-marks : goal.returns-clause-marks
returns-clause-marks c =
    let a = c.self.inside in
    (installs_from (kind_of a.elem) a.shape a.given a.frame a.chunks c.self.invariant.0 c.args.self.now c.self.view_is c.args.index.now c.args.bytes c.put_chunk.new.chunks (subst (λ (bs : List ℕ). IsChunkOf c.args.self.now.grid c.args.index.now bs) c.as_slice.ensures.value (c.is_chunk.ensures.0 c.if-not-is_chunk.false)) c.in_ok-put_chunk.ensures.done).marks

pub returns-clause-tracked : goal.returns-clause-tracked
returns-clause-tracked c =
    let a = c.self.inside in
    (installs_from (kind_of a.elem) a.shape a.given a.frame a.chunks c.self.invariant.0 c.args.self.now c.self.view_is c.args.index.now c.args.bytes c.put_chunk.new.chunks (subst (λ (bs : List ℕ). IsChunkOf c.args.self.now.grid c.args.index.now bs) c.as_slice.ensures.value (c.is_chunk.ensures.0 c.if-not-is_chunk.false)) c.in_ok-put_chunk.ensures.done).tracked
