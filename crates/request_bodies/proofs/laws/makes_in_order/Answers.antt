use Rattle.request_bodies.proofs.OrderLemmas.{make_first}
use Rattle.request_bodies.proofs.laws.makes_in_order.Goals as goal

pub returns : goal.returns
returns c = make_first
