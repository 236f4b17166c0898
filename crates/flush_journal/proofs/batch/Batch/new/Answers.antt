use Rattle.flush_journal.proofs.BatchFronts.{nothing_kept}
use Rattle.flush_journal.proofs.batch.Batch.new.Goals as goal

pub invariant_of-result : goal.invariant_of-result
invariant_of-result c = let kept = nothing_kept _ c.new.ensures.items in record { whole = kept.whole; sound = kept.sound }

pub returns : goal.returns
returns c = (nothing_kept _ c.new.ensures.items).records
