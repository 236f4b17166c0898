use Rattle.std.proofs.Common.{is_some, sym, ap, ◌∙◌}
use Rattle.std.specs.Option.{option_copied}
use Rattle.hdf_types.specs.Views.{elem as kind_of}
use Rattle.chunk_store.proofs.PartLemmas.{cell_tested, chunk_sound, chunk_whole, known_held}
use Rattle.chunk_store.proofs.KeyLemmas.{find-get, not_gone}
use Rattle.chunk_store.proofs.array.Array.chunk_bytes.Goals as goal

pub has_cell-requires-clause-chunk : goal.has_cell-requires-clause-chunk
has_cell-requires-clause-chunk c =
    let a = c.self.inside in
    chunk_sound (kind_of a.elem) a.shape a.given a.frame a.chunks c.self.invariant.0

pub unreachable-requires : goal.unreachable-requires
unreachable-requires c =
    let a = c.self.inside in
    not_gone a.chunks c.args.index.now _ c.get.ensures.value (known_held (kind_of a.elem) a.shape a.given a.frame a.chunks c.self.invariant.0 c.args.self.now c.self.view_is c.args.index.now c.requires.known) (ap (λ o. is_some (option_copied o)) c.in_default.is)

pub returns : goal.returns
returns c =
    let a = c.self.inside in
    c.as_slice.ensures.value
    ∙ chunk_whole (kind_of a.elem) a.shape a.given a.frame a.chunks c.self.invariant.0 c.args.self.now c.self.view_is c.args.index.now c.in-Some.held.now
    (sym (cell_tested (kind_of a.elem) a.shape a.given a.frame a.chunks c.self.invariant.0 c.args.self.now c.self.view_is c.args.index.now) ∙ sym c.has_cell.ensures ∙ c.if-not-has_cell.false)
    (sym (find-get a.chunks c.args.index.now) ∙ sym c.in-Some.ensures.value)
