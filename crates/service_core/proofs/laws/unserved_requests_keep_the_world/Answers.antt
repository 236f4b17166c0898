use Rattle.service_core.proofs.KeepLemmas.{denials_kept, refusals_kept}
use Rattle.service_core.proofs.laws.unserved_requests_keep_the_world.Goals as goal

pub returns-clause-denied : goal.returns-clause-denied
returns-clause-denied c = denials_kept

pub returns-clause-refused : goal.returns-clause-refused
returns-clause-refused c = refusals_kept c.refusals_leave_all.ensures
