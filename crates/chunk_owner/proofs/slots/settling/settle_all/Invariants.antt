use Rattle.chunk_owner.proofs.OfSlots.CutWalks.{IsSettledTo}
use Rattle.chunk_owner.proofs.OfSlots.Listing.{looks_left}
use Rattle.chunk_owner.proofs.slots.settling.settle_all.Given as goal

abbrev pub invariant-loop-id : goal.invariant-loop-id
invariant-loop-id l = IsSettledTo l.fn.slots l.slots l.last

abbrev pub decreases-loop-id : goal.decreases-loop-id
decreases-loop-id l = looks_left l.changes l.fn.slots l.last
