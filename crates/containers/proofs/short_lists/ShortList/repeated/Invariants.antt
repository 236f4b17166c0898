use Rattle.std.proofs.Common.{◌≡◌, replicate}
use Rattle.containers.proofs.short_lists.ShortList.repeated.Given as goal

abbrev pub invariant-loop : goal.invariant-loop
invariant-loop g l = l.list ≡ replicate l.counter l.n
