use Rattle.lane_histories.proofs.TurnOrder.{tickets_are_numbered, tickets_stay, turns_come_in_order}
use Rattle.lane_histories.proofs.laws.turns_come_in_order.Goals as goal

pub returns : goal.returns
returns g c = record {
  order = λ lanes. turns_come_in_order (g.S.Lanes.service lanes);
  numbers = λ lanes. tickets_are_numbered (g.S.Lanes.service lanes);
  stay = λ lanes. tickets_stay (g.S.Lanes.service lanes);
}
