use Rattle.std.proofs.Common.{sym, subst}
use Rattle.access_lists.specs.Lists.{IsList}
use Rattle.access_lists.proofs.Limits.{empty_valid}
use Rattle.access_lists.proofs.list.AccessList.new.Goals as goal

pub invariant_of-result : goal.invariant_of-result
invariant_of-result c = subst IsList (sym c.new.ensures) empty_valid
