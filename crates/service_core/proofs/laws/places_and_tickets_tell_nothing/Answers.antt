use Rattle.service_core.proofs.AlikeLemmas.{replays_alike, steps_alike}
use Rattle.service_core.proofs.laws.places_and_tickets_tell_nothing.Goals as goal

pub returns : goal.returns
returns c = record { step = steps_alike; replay = replays_alike }
