use Rattle.std.proofs.Common.{length}
use Rattle.flush_journal.specs.Batches.{records}
use Rattle.chunk_owner.proofs.OfSlots.ChunkRecords.{IsCutting}
use Rattle.chunk_owner.proofs.OfSlots.ChunkWalks.{left_after}
use Rattle.chunk_owner.proofs.slots.chunks.cut_chunks.Given as goal

abbrev pub invariant-loop-index : goal.invariant-loop-index
invariant-loop-index l = IsCutting l.id l.mark l.array (records l.fn.into) (records l.into) l.last

abbrev pub decreases-loop-index : goal.decreases-loop-index
decreases-loop-index l = length (left_after l.last l.array.marks)
