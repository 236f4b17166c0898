use Rattle.std.proofs.Common.{length}
use Rattle.flush_journal.specs.Batches.{records}
use Rattle.chunk_owner.proofs.OfOwners.CutLemmas.{IsCutTo}
use Rattle.chunk_owner.proofs.owners.cuts.cut_lanes.Given as goal

abbrev pub invariant-loop-lane : goal.invariant-loop-lane
invariant-loop-lane l = IsCutTo (length l.fn.owners) l.lane l.fn.owners l.owners (records l.fn.into) (records l.into)
