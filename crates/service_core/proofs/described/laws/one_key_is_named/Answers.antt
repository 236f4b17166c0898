use Rattle.service_core.proofs.OfDescribed.NamedLemmas.{faults_are_one}
use Rattle.service_core.proofs.described.laws.one_key_is_named.Goals as goal

pub returns : goal.returns
returns c = faults_are_one
