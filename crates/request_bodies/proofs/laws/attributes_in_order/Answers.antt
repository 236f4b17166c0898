use Rattle.request_bodies.proofs.OrderLemmas.{attribute_first}
use Rattle.request_bodies.proofs.laws.attributes_in_order.Goals as goal

pub returns : goal.returns
returns c = attribute_first
