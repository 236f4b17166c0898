use Rattle.std.proofs.Common.{Some, is_some, ap, ◌∙◌}
use Rattle.std.specs.Option.{option_copied_mut}
use Rattle.chunk_store.proofs.KeyLemmas.{find-get, find-updated, not_gone}
use Rattle.chunk_store.proofs.BufferLemmas.{found_full, found_in}
use Rattle.chunk_store.proofs.SlabLemmas.{IsChunkBox, chunk_box, chunk_written}
use Rattle.chunk_store.proofs.slabs.write_chunk.Goals.{After-first_cell-origin}
use Rattle.chunk_store.proofs.slabs.write_chunk.Goals as goal

box : (c : After-first_cell-origin) → IsChunkBox c.args.frame.now c.args.slab.now c.first_cell-origin.result c.args.index.now
box c = record { frame = c.requires.frame; slab = c.requires.slab; rank = c.requires.rank; index = c.requires.index; first = c.first_cell-origin.ensures }

pub unreachable-requires : goal.unreachable-requires
unreachable-requires c = not_gone c.args.chunks.now c.args.index.now _ c.get_mut.ensures.value c.requires.there (ap (λ o. is_some (option_copied_mut o)) c.in_default.is)

pub write_held-requires-clause-inside : goal.write_held-requires-clause-inside
write_held-requires-clause-inside c = chunk_box _ _ _ _ (box (goal.at.write_held-requires-clause-inside c).After-first_cell-origin)

pub write_held-requires-clause-full : goal.write_held-requires-clause-full
write_held-requires-clause-full c =
    let held = c.in-Some.held.now in
    found_full c.args.chunks.now c.args.frame.now c.args.index.now held c.requires.full (found_in c.args.chunks.now c.args.index.now (Some held) c.in-Some.ensures.value)

pub returns : goal.returns
returns c =
    let m = c.args.chunks.now in
    let i = c.args.index.now in
    let new = c.write_held.new.held in
    let n = c.get_mut.follows.lender new in
    chunk_written _ _ _ _ (box (goal.at.returns c).After-first_cell-origin) m n c.in-Some.held.now new (found_in m i (Some c.in-Some.held.now) c.in-Some.ensures.value)
    (find-updated m n i (Some new) ((c.get_mut.follows.holds new).3 (ap is_some (find-get m i) ∙ c.requires.there)))
    c.args.bytes.now c.requires.full c.write_held.ensures.len c.write_held.ensures.dirty c.write_held.ensures.written
