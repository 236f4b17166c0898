use Rattle.std.proofs.Common.{◌≡◌, take}
use Rattle.containers.proofs.short_lists.ShortList.from_slice.Given as goal

abbrev pub invariant-loop-n : goal.invariant-loop-n
invariant-loop-n g l = l.list ≡ take l.n-index l.numbers
