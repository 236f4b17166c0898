use Rattle.lane_histories.proofs.CoreLemmas.{cores_are_legal, cores_stand_for_lists, images_are_kept, keepings_last}
use Rattle.lane_histories.proofs.OwnLemmas.{keepings_tell}
use Rattle.lane_histories.proofs.laws.events_keep.Goals as goal

pub returns : goal.returns
returns g c = record {
  legal = λ lanes. cores_are_legal (g.S.Lanes.service lanes) (g.S.Lanes.contents lanes);
  lists = λ lanes. cores_stand_for_lists (g.S.Lanes.service lanes) (g.S.Lanes.contents lanes);
  images = λ lanes. images_are_kept (g.S.Lanes.service lanes) (g.S.Lanes.contents lanes);
  numbers = λ lanes. keepings_tell (g.S.Lanes.service lanes) (g.S.Lanes.contents lanes);
  last = λ lanes. keepings_last (g.S.Lanes.service lanes) (g.S.Lanes.contents lanes);
}
