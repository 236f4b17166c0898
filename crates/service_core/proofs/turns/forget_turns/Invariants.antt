use Rattle.std.proofs.Common.{◌≡◌, length}
use Rattle.chunk_owner.specs.Owners.Joined.{whole}
use Rattle.chunk_owner.specs.Owners.Records.{LanesStillSay}
use Rattle.service_core.specs.Marking.{AddsLaneMarks, IsForgetMark}
use Rattle.service_core.proofs.ForgetLemmas.{SoFar}
use Rattle.service_core.proofs.turns.forget_turns.Given as goal

abbrev pub invariant-lanes : goal.invariant-lanes
invariant-lanes l = (length l.owners ≡ length l.fn.owners) × SoFar l.number (length l.fn.owners) l.fn.owners l.owners l.tickets.left × LanesStillSay l.fn.owners l.owners
    × AddsLaneMarks (IsForgetMark l.number (whole l.fn.owners)) l.fn.owners l.owners

abbrev pub decreases-lanes : goal.decreases-lanes
decreases-lanes l = length l.tickets.left
