use Rattle.lane_histories.proofs.ToldCuts.{cut_pairs_are_kept, cuts_stay_told}
use Rattle.lane_histories.proofs.laws.cut_pairs_are_kept.Goals as goal

pub returns : goal.returns
returns g c = record {
  kept = λ lanes. cut_pairs_are_kept (g.S.Lanes.service lanes) (g.S.Lanes.contents lanes);
  stay = λ lanes. cuts_stay_told (g.S.Lanes.service lanes) (g.S.Lanes.contents lanes);
}
