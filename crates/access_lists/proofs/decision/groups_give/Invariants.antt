use Rattle.std.proofs.Common.{◌≡◌, take}
use Rattle.access_lists.specs.GroupNames.{names_of}
use Rattle.access_lists.specs.InForce.{group_entries, union_holds}
use Rattle.access_lists.proofs.decision.groups_give.Given as goal

-- what the entries of the groups so far give
abbrev pub invariant-loop-group : goal.invariant-loop-group
invariant-loop-group l = l.given ≡ union_holds l.right (group_entries l.list (names_of (take l.group-index l.groups)))
