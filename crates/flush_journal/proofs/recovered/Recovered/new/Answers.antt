use Rattle.flush_journal.proofs.KeptLemmas.{kept_empty}
use Rattle.flush_journal.proofs.recovered.Recovered.new.Goals as goal

pub invariant_of-result : goal.invariant_of-result
invariant_of-result c = kept_empty c.new.result c.new.ensures
