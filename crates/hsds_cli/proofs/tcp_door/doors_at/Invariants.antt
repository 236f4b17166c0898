use Rattle.std.proofs.Common.{◌≡◌, length}
use Rattle.hsds_cli.proofs.tcp_door.doors_at.Given as goal

abbrev pub invariant-loop-worker : goal.invariant-loop-worker
invariant-loop-worker g l = length l.doors.items ≡ l.worker
