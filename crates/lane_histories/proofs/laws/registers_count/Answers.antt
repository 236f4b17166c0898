use Rattle.lane_histories.proofs.Tickets.{registers_count}
use Rattle.lane_histories.proofs.laws.registers_count.Goals as goal

pub returns : goal.returns
returns g c = λ lanes. registers_count (g.S.Lanes.service lanes)
