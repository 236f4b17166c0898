use Rattle.std.proofs.Common.{length}
use Rattle.service_core.proofs.turns.drain.Given as goal

abbrev pub decreases-rest : goal.decreases-rest
decreases-rest l = length l.tickets.left
