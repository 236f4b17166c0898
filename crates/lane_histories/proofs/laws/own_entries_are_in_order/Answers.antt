use Rattle.lane_histories.proofs.OwnEntries.{own_entries_are_in_order, own_entries_are_later, own_entries_grow, own_entries_stay}
use Rattle.lane_histories.proofs.laws.own_entries_are_in_order.Goals as goal

pub returns : goal.returns
returns g c = record {
  stay = λ lanes. own_entries_stay (g.S.Lanes.service lanes);
  grow = λ lanes. own_entries_grow (g.S.Lanes.service lanes);
  order = λ lanes. own_entries_are_in_order (g.S.Lanes.service lanes);
  later = λ lanes. own_entries_are_later (g.S.Lanes.service lanes);
}
