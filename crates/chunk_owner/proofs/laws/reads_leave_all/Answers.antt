use Rattle.chunk_owner.proofs.KeptLemmas.{reads_kept}
use Rattle.chunk_owner.proofs.laws.reads_leave_all.Goals as goal

pub returns : goal.returns
returns c = reads_kept
