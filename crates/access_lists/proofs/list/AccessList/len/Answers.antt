use Rattle.std.proofs.Common.{◌≤◌, subst}
use Rattle.std.specs.FinMap.{len}
use Rattle.access_lists.specs.InForce.{Entries}
use Rattle.access_lists.proofs.list.AccessList.len.Goals as goal

pub returns-clause-most : goal.returns-clause-most
returns-clause-most c = subst (λ (m : Entries). len m ≤ 1024) c.self.view_is c.self.invariant.few
