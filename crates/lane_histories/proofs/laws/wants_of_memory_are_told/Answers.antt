use Rattle.lane_histories.proofs.ShortLemmas.{shorts_are_told}
use Rattle.lane_histories.proofs.laws.wants_of_memory_are_told.Goals as goal

pub returns : goal.returns
returns g c = λ lanes. shorts_are_told (g.S.Lanes.service lanes)
