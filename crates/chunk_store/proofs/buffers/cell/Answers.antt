use Rattle.std.proofs.Common.{Some, None, length, ap, sym, ◌∙◌}
use Rattle.hdf_values.specs.Nested.{piece_at}
use Rattle.chunk_store.proofs.BufferLemmas.{element_inside, found_bytes, found_full, found_in}
use Rattle.chunk_store.proofs.buffers.cell.Goals as goal

pub element-requires : goal.element-requires
element-requires c =
    let m = c.args.chunks.now in
    let i = c.chunk_of-index.result in
    let held = c.in-Some.held.now in
    element_inside c.args.frame.now c.args.at.now c.as_slice.result.now c.offset_in-number.result c.requires.frame c.requires.rank c.offset_in-number.ensures.offset
    (ap length c.as_slice.ensures.value ∙ found_full m c.args.frame.now i held c.requires.full (found_in m i (Some held) c.in-Some.ensures.value))

pub returns-in-Some : goal.returns-in-Some
returns-in-Some c =
    let m = c.args.chunks.now in
    let i = c.chunk_of-index.result in
    let held = c.in-Some.held.now in
    c.element.ensures ∙ ap (λ n. piece_at c.args.frame.now.size n c.as_slice.result.now) c.offset_in-number.ensures.offset ∙ ap (piece_at c.args.frame.now.size _) c.as_slice.ensures.value
    ∙ sym (found_bytes m c.args.frame.now c.args.at.now i (Some held) c.chunk_of-index.ensures (found_in m i (Some held) c.in-Some.ensures.value))

pub returns-in-None : goal.returns-in-None
returns-in-None c =
    let m = c.args.chunks.now in
    let i = c.chunk_of-index.result in
    c.as_slice-in-None.ensures.value ∙ sym (found_bytes m c.args.frame.now c.args.at.now i None c.chunk_of-index.ensures (found_in m i None c.in-None.ensures.value))
