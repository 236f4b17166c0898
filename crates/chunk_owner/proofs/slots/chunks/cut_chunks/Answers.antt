use Rattle.std.proofs.Common.{ℕ, List, Option, Some, None, subst}
use Rattle.flush_journal.specs.Batches.{records}
use Rattle.chunk_store.specs.Marks.{IsNext}
use Rattle.chunk_owner.specs.Slots.Slots.{is_meant}
use Rattle.chunk_owner.specs.Slots.Cutting.{AddsChunks}
use Rattle.std.proofs.Common.{false}
use Rattle.chunk_owner.proofs.OfSlots.ChunkWalks.{walk_smaller}
use Rattle.chunk_owner.proofs.OfSlots.ChunkRecords.{cutting_begin, cutting_more, cutting_end, cutting_front, index_there}
use Rattle.chunk_owner.proofs.slots.chunks.cut_chunks.Goals as goal
use Rattle.containers.proofs.Plain.{on_err}

pub loop-index-init : goal.loop-index-init
loop-index-init c = cutting_begin c.args.id.now c.args.mark c.args.array.now (records c.args.into.now)

pub returns-in_err-cut_chunk-clause-err : goal.returns-in_err-cut_chunk-clause-err
returns-in_err-cut_chunk-clause-err c =
    on_err {P = AddsChunks c.args.id.now c.args.mark c.args.array.now false (records c.args.into.now) (records c.cut_chunk.new.into)} c.from_residual.result
    (cutting_front c.args.id.now c.args.mark c.args.array.now (records c.args.into.now) (records c.loop-index.into) c.loop-index.last c.loop-index.invariant (records c.cut_chunk.new.into) c.in_err-cut_chunk.ensures.err)

pub loop-index-smaller : goal.loop-index-smaller
loop-index-smaller c =
    let next = subst (λ (after : Option (List ℕ)). IsNext (is_meant c.args.mark c.args.array.now) after (Some c.in-Some.index)) c.as_ref.ensures.value c.in-Some.ensures.next in
    walk_smaller c.loop-index.last c.in-Some.index next.1 c.args.array.now.marks c.in-Some.ensures.known

pub loop-index-preserved : goal.loop-index-preserved
loop-index-preserved c =
    cutting_more c.args.id.now c.args.mark c.args.array.now (records c.args.into.now) (records c.loop-index.into) c.loop-index.last c.loop-index.invariant (records c.cut_chunk.new.into) c.in-Some.index
    (subst (λ (after : Option (List ℕ)). IsNext (is_meant c.args.mark c.args.array.now) after (Some c.in-Some.index)) c.as_ref.ensures.value c.in-Some.ensures.next)
    (index_there c.args.array.now c.in-Some.index c.is_whole.ensures.grid c.in-Some.ensures.index) c.in_ok-cut_chunk.ensures.ok

pub returns-clause-ok : goal.returns-clause-ok
returns-clause-ok c =
    cutting_end c.args.id.now c.args.mark c.args.array.now (records c.args.into.now) (records c.loop-index.into) c.loop-index.last c.loop-index.invariant
    (subst (λ (after : Option (List ℕ)). IsNext (is_meant c.args.mark c.args.array.now) after None) c.as_ref.ensures.value c.in_default.ensures.next)
