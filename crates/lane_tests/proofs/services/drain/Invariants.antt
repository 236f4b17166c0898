use Rattle.std.proofs.Common.{length}
use Rattle.lane_tests.proofs.services.drain.Given as goal

abbrev pub decreases-rest : goal.decreases-rest
decreases-rest l = length l.tickets.left
