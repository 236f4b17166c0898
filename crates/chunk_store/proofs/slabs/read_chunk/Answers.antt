use Rattle.std.proofs.Common.{Some, None, length, ap, ◌∙◌}
use Rattle.chunk_store.proofs.BufferLemmas.{found_full, found_in}
use Rattle.chunk_store.proofs.SlabLemmas.{IsChunkBox, chunk_box, read_held, read_blank, read_ready}
use Rattle.chunk_store.proofs.slabs.read_chunk.Goals.{After-first_cell-origin}
use Rattle.chunk_store.proofs.slabs.read_chunk.Goals as goal

box : (c : After-first_cell-origin) → IsChunkBox c.args.frame.now c.args.slab.now c.first_cell-origin.result c.args.index.now
box c = record { frame = c.requires.frame; slab = c.requires.slab; rank = c.requires.rank; index = c.requires.index; first = c.first_cell-origin.ensures }

pub read_box-requires-clause-inside : goal.read_box-requires-clause-inside
read_box-requires-clause-inside c = chunk_box _ _ _ _ (box (goal.at.read_box-requires-clause-inside c).After-first_cell-origin)

pub read_box-requires-clause-buffer : goal.read_box-requires-clause-buffer
read_box-requires-clause-buffer c =
    let held = c.in-Some.held.now in
    ap length c.as_slice.ensures.value ∙ found_full c.args.chunks.now c.args.frame.now c.args.index.now held c.requires.full (found_in c.args.chunks.now c.args.index.now (Some held) c.in-Some.ensures.value)

pub fill_box-requires-clause-inside : goal.fill_box-requires-clause-inside
fill_box-requires-clause-inside c = chunk_box _ _ _ _ (box (goal.at.fill_box-requires-clause-inside c).After-first_cell-origin)

pub returns-in-Some-clause-read : goal.returns-in-Some-clause-read
returns-in-Some-clause-read c =
    let held = c.in-Some.held.now in
    read_held _ _ _ _ (box (goal.at.returns-in-Some-clause-read c).After-first_cell-origin) c.args.chunks.now held c.as_slice.result.now c.args.out.now c.read_box.new.out
    (found_in c.args.chunks.now c.args.index.now (Some held) c.in-Some.ensures.value) c.as_slice.ensures.value c.read_box.ensures.read

pub returns-then-not-ready-clause-read : goal.returns-then-not-ready-clause-read
returns-then-not-ready-clause-read c =
    read_blank _ _ _ _ (box (goal.at.returns-then-not-ready-clause-read c).After-first_cell-origin) c.args.chunks.now c.as_slice-blank.result.now c.args.out.now c.fill_box.new.out
    (found_in c.args.chunks.now c.args.index.now None c.in-None.ensures.value) c.as_slice-blank.ensures.value c.fill_box.ensures.filled

pub returns-else-not-ready-clause-read : goal.returns-else-not-ready-clause-read
returns-else-not-ready-clause-read c =
    read_ready _ _ _ _ (box (goal.at.returns-else-not-ready-clause-read c).After-first_cell-origin) c.args.chunks.now c.args.out.now
    (found_in c.args.chunks.now c.args.index.now None c.in-None.ensures.value) (c.requires.ready c.if-not-ready.false)
