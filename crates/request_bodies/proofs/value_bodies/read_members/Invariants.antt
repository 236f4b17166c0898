use Rattle.std.proofs.Common.{length}
use Rattle.request_bodies.proofs.ValueBodyLemmas.{IsUnderway}
use Rattle.request_bodies.proofs.value_bodies.read_members.Given as goal

abbrev pub invariant-members : goal.invariant-members
invariant-members l = IsUnderway l.fn.reader l.reader l.body

abbrev pub decreases-members : goal.decreases-members
decreases-members l = length l.reader
