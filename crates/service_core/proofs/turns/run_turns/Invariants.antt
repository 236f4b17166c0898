use Rattle.std.proofs.Common.{◌≡◌, true, length}
use Rattle.chunk_owner.specs.Owners.Joined.{AreLanes, whole}
use Rattle.chunk_owner.specs.Owners.Records.{LanesStillSay}
use Rattle.service_core.specs.Turns.{AreReady}
use Rattle.service_core.proofs.TurnMarks.{MarkedSoFar}
use Rattle.service_core.proofs.turns.run_turns.Given as goal
use Rattle.object_ops.specs.Replies.{was_done}

abbrev pub invariant-turns : goal.invariant-turns
invariant-turns l =
    (l.tickets.grant ≡ l.fn.tickets.grant) × (l.grant ≡ l.fn.tickets.grant) × (length l.owners ≡ length l.fn.owners) × AreLanes (length l.fn.owners) 0 l.owners
    × (was_done l.reply ≡ true → AreReady (length l.fn.owners) l.fn.tickets.grant l.op (whole l.owners) l.tickets.left)
    × MarkedSoFar l.fn.tickets.grant l.op l.fn.tickets.left l.fn.owners l.reply l.owners l.tickets.left
    × LanesStillSay l.fn.owners l.owners

abbrev pub decreases-turns : goal.decreases-turns
decreases-turns l = length l.tickets.left
