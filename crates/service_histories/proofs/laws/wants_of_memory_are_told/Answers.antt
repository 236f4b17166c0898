use Rattle.service_histories.proofs.WantLemmas.{wants_are_told}
use Rattle.service_histories.proofs.laws.wants_of_memory_are_told.Goals as goal

pub returns : goal.returns
returns c = λ lanes. wants_are_told lanes (c.wants_of_memory_are_told.ensures lanes)
