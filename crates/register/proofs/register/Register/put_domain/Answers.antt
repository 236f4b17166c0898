use Rattle.std.proofs.Common.{subst}
use Rattle.domains.specs.Changes.{domain_fault}
use Rattle.register.specs.Decided.{RegisterState, domain_made}
use Rattle.register.specs.Looks.{MaySettle}
use Rattle.register.proofs.Settling.{domain_full}
use Rattle.register.proofs.register.Register.put_domain.Goals as goal

pub returns-then-self-ge-SERIAL_LIMIT-clause-settles : goal.returns-then-self-ge-SERIAL_LIMIT-clause-settles
returns-then-self-ge-SERIAL_LIMIT-clause-settles c =
    let d : RegisterState = record { catalogue = c.self.inside.catalogue; run = c.self.inside.run; serial = c.self.inside.serial; places = c.self.inside.places; issued = c.self.inside.issued; marks = c.self.inside.marks } in
    let Settled : RegisterState → Type 0 = λ x. MaySettle (domain_made x c.args.path.now c.args.owner.now (domain_fault x.catalogue c.args.path.now)) x c.limit.result x in
    subst Settled c.self.view_is
    (domain_full d c.args.path.now c.args.owner.now (domain_fault d.catalogue c.args.path.now) c.limit.result c.in-Ok.ensures.why c.if-self-ge-SERIAL_LIMIT.true c.limit.ensures)
