use Rattle.chunk_owner.proofs.JoinedLemmas.{drops_in_each, without_forgets}
use Rattle.chunk_owner.proofs.laws.domains_are_dropped_in_each_lane.Goals as goal

pub returns : goal.returns
returns c = record { forgets = without_forgets; each = drops_in_each }
