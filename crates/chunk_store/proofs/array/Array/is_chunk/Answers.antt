use Rattle.std.proofs.Common.{◌*◌, ◌↔◌, ℕ, IsTrue, length, sym, ap, subst, ◌∙◌}
use Rattle.hdf_types.specs.Reading.{size_of}
use Rattle.hdf_types.specs.Views.{elem as kind_of}
use Rattle.hdf_values.specs.Nested.{AreEncoded}
use Rattle.shapes.specs.RowMajor.{cell_count}
use Rattle.chunk_store.specs.Parts.{stored_in}
use Rattle.chunk_store.specs.Marks.{Stored, IsChunkOf}
use Rattle.chunk_store.proofs.PartLemmas.{chunk_sound, frame_sound, held_index, whole_grid, filling}
use Rattle.chunk_store.proofs.ChunkLemmas.{chunk_test}
use Rattle.chunk_store.proofs.array.Array.is_chunk.Goals as goal

pub has_cell-requires-clause-chunk : goal.has_cell-requires-clause-chunk
has_cell-requires-clause-chunk c =
    let a = c.self.inside in
    chunk_sound (kind_of a.elem) a.shape a.given a.frame a.chunks c.self.invariant.0

pub cell_number-requires : goal.cell_number-requires
cell_number-requires c =
    let a = c.self.inside in
    chunk_sound (kind_of a.elem) a.shape a.given a.frame a.chunks c.self.invariant.0

pub is_blank_outside-requires-clause-chunk : goal.is_blank_outside-requires-clause-chunk
is_blank_outside-requires-clause-chunk c =
    let a = c.self.inside in
    chunk_sound (kind_of a.elem) a.shape a.given a.frame a.chunks c.self.invariant.0

pub is_blank_outside-requires-clause-index : goal.is_blank_outside-requires-clause-index
is_blank_outside-requires-clause-index c =
    let a = c.self.inside in
    held_index (kind_of a.elem) a.shape a.given a.frame a.chunks c.self.invariant.0 c.args.index.now (sym c.has_cell.ensures ∙ c.if-not-has_cell.false)

pub is_blank_outside-requires-clause-whole : goal.is_blank_outside-requires-clause-whole
is_blank_outside-requires-clause-whole c =
    let a = c.self.inside in
    let enc = c.are_elements.ensures.0 c.if-not-are_elements.false in
    enc.whole ∙ ap (λ n. n * size_of (kind_of a.elem)) c.cell_number.ensures
    ∙ ap (λ n. cell_count a.frame.layout.chunk * n) (sym (ap length c.as_slice.ensures.value ∙ (frame_sound (kind_of a.elem) a.shape a.given a.frame a.chunks c.self.invariant.0).blank ∙ c.self.invariant.0.sized))

pub returns : goal.returns
returns c =
    let a = c.self.inside in
    let enc = c.are_elements.ensures.0 c.if-not-are_elements.false in
    subst (λ (x : Stored). IsTrue c.is_blank_outside.result ↔ IsChunkOf x.grid c.args.index.now c.args.bytes.now) c.self.view_is
    (chunk_test (stored_in (kind_of a.elem) a.shape a.given a.frame a.chunks).grid (whole_grid (kind_of a.elem) a.shape a.given a.frame a.chunks c.self.invariant.0) c.args.index.now c.args.bytes.now c.as_slice.result.now c.is_blank_outside.result
    (c.as_slice.ensures.value ∙ filling (kind_of a.elem) a.shape a.given a.frame a.chunks c.self.invariant.0) (sym c.has_cell.ensures ∙ c.if-not-has_cell.false)
    (subst (λ (n : ℕ). AreEncoded (kind_of a.elem) n c.args.bytes.now) c.cell_number.ensures enc) c.is_blank_outside.ensures)
