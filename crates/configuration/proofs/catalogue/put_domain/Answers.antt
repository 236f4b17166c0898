use Rattle.std.proofs.Common.{sym, subst}
use Rattle.domains.specs.Contents.{IsNumberFree}
use Rattle.domains.specs.declared.classes.NodeClass.{NodeClass}
use Rattle.configuration.proofs.catalogue.put_domain.Goals as goal

pub put_new-requires-clause-free : goal.put_new-requires-clause-free
put_new-requires-clause-free c =
    subst (λ (class : NodeClass). IsNumberFree c.args.catalogue.now c.args.path.now class) (sym c.domain_class.ensures)
    (c.next_number-number.ensures.free c.args.path.now)
