use Rattle.lane_histories.proofs.PlaceLemmas.{catalogues_stay, verdicts_are_of_their_places}
use Rattle.lane_histories.proofs.laws.verdicts_are_of_their_places.Goals as goal

pub returns : goal.returns
returns g c = record {
  verdict = λ lanes. verdicts_are_of_their_places (g.S.Lanes.service lanes);
  stay = λ lanes. catalogues_stay (g.S.Lanes.service lanes);
}
