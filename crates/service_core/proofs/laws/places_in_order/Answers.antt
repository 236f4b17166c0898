use Rattle.service_core.proofs.LawLemmas.{places_go_on, places_in_order}
use Rattle.service_core.proofs.laws.places_in_order.Goals as goal

pub returns-clause-order : goal.returns-clause-order
returns-clause-order c = places_in_order c.decisions_keep.ensures.place

pub returns-clause-next : goal.returns-clause-next
returns-clause-next c = places_go_on c.decisions_keep.ensures.place
