use Rattle.json_import.proofs.OfFresh.LoadedLemmas.{stand_for_one}
use Rattle.json_import.proofs.fresh.laws.documents_stand_for_one.Goals as goal

pub returns : goal.returns
returns c = stand_for_one
