use Rattle.register.proofs.VerdictLemmas.{denied_exactly, no_domain_exactly}
use Rattle.register.proofs.laws.verdicts_come_exactly.Goals as goal

pub returns : goal.returns
returns c = record { denied = denied_exactly; no_domain = no_domain_exactly }
