use Rattle.service_histories.proofs.KeptLemmas.{kept_objects_stand}
use Rattle.service_histories.proofs.laws.kept_objects_stand.Goals as goal

pub returns : goal.returns
returns c = kept_objects_stand
