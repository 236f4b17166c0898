use Rattle.std.proofs.Common.{◌≡◌, length}
use Rattle.access_lists.specs.Tokens.Bearer.{without_spaces}
use Rattle.access_lists.proofs.tokens.header.without_spaces.Given as goal

abbrev pub invariant-loop-left : goal.invariant-loop-left
invariant-loop-left l = without_spaces l.bytes ≡ without_spaces l.left

abbrev pub decreases-loop-left : goal.decreases-loop-left
decreases-loop-left l = length l.left
