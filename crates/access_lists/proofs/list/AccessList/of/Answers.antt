use Rattle.std.proofs.Common.{ap, sym, subst, ◌∙◌}
use Rattle.std.specs.FinMap.{insert}
use Rattle.access_lists.specs.Lists.{IsList}
use Rattle.access_lists.proofs.Limits.{one_valid}
use Rattle.access_lists.proofs.list.AccessList.of.Goals as goal

pub invariant_of-result : goal.invariant_of-result
invariant_of-result c =
    subst IsList (sym (c.in_ok-put.ensures.ok ∙ ap (λ m. insert m c.args.name c.args.rights) c.new-entries.ensures)) (one_valid c.args.name c.args.rights c.text.ensures.name)
