use Rattle.lane_histories.proofs.ReplayLemmas.{replays_are_products}
use Rattle.lane_histories.proofs.BackLemmas.{replays_are_legal}
use Rattle.lane_histories.proofs.laws.replays_are_products.Goals as goal

pub returns : goal.returns
returns g c = record {
  product = λ lanes. replays_are_products (g.S.Lanes.service lanes);
  legal = λ lanes. replays_are_legal (g.S.Lanes.service lanes);
}
