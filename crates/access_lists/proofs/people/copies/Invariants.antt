use Rattle.std.proofs.Common.{◌≡◌, take}
use Rattle.access_lists.specs.GroupNames.{names_of}
use Rattle.access_lists.proofs.people.copies.Given as goal

abbrev pub invariant-loop-group : goal.invariant-loop-group
invariant-loop-group l = names_of l.copies.items ≡ names_of (take l.group-index l.groups)
