use Rattle.flush_journal.specs.Batches.{records}
use Rattle.chunk_owner.proofs.OfSlots.CutWalks.{IsAppended}
use Rattle.chunk_owner.proofs.OfSlots.Listing.{looks_left}
use Rattle.chunk_owner.proofs.slots.cuts.append_all.Given as goal

abbrev pub invariant-loop-id : goal.invariant-loop-id
invariant-loop-id l = IsAppended l.slots (records l.fn.into) (records l.into) l.last

abbrev pub decreases-loop-id : goal.decreases-loop-id
decreases-loop-id l = looks_left l.changes l.slots l.last
