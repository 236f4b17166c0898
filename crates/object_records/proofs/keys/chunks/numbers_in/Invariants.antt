use Rattle.std.proofs.Common.{length}
use Rattle.object_records.proofs.OfKeys.NumberLaws.{IsRead}
use Rattle.object_records.proofs.keys.chunks.numbers_in.Given as goal

abbrev pub invariant-loop-left : goal.invariant-loop-left
invariant-loop-left l = IsRead l.bytes l.numbers l.left

abbrev pub decreases-loop-left : goal.decreases-loop-left
decreases-loop-left l = length l.left
