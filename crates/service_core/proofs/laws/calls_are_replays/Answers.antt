use Rattle.service_core.proofs.ReplayLemmas.{replayed}
use Rattle.service_core.proofs.laws.calls_are_replays.Goals as goal

pub returns : goal.returns
returns c = replayed
