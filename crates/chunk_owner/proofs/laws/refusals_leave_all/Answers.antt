use Rattle.chunk_owner.proofs.KeptLemmas.{all_kept}
use Rattle.chunk_owner.proofs.laws.refusals_leave_all.Goals as goal

pub returns : goal.returns
returns c = all_kept c.refusals_leave_the_object.ensures.change c.refusals_leave_the_object.ensures.link
