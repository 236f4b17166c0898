-- The first fault in the order, or none.
use Rattle.hyperslab.proofs.OutcomeLemmas.{judged_outcome}
use Rattle.hyperslab.proofs.judging.one_outcome.Goals as goal

pub returns : goal.returns
returns c = judged_outcome
