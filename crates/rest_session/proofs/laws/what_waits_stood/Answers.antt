use Rattle.rest_session.proofs.WaitingRecords.{what_waits}
use Rattle.rest_session.proofs.laws.what_waits_stood.Goals as goal

pub returns : goal.returns
returns g c = λ s t taken sent left end transcript none all k. what_waits c.places_in_order.ensures.next s t taken sent left end transcript none all k
