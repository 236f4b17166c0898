use Rattle.std.proofs.Common.{◌+◌, sym, subst}
use Rattle.domains.specs.Contents.{Contents}
use Rattle.register.specs.Decided.{AreGivenOut, RegisterState}
use Rattle.register.proofs.RegisterStates.{moved, serial_taken}
use Rattle.register.proofs.Roots.{with_domain}
use Rattle.register.specs.Since.{StillSays}
use Rattle.register.proofs.Saying.{domain_left}
use Rattle.register.proofs.register.Register.make_domain.Goals as goal

pub invariant_of-self-2 : goal.invariant_of-self-2
invariant_of-self-2 c =
    let d : RegisterState = record { catalogue = c.self.inside.catalogue; run = c.self.inside.run; serial = c.self.inside.serial; places = c.self.inside.places; issued = c.self.inside.issued; marks = c.self.inside.marks } in
    let Given : Contents → Type 0 = λ k. AreGivenOut k d.run (d.serial + 1) in
    moved (record d { serial = d.serial + 1 }) c.make_domain.new.catalogue c.make_domain.new.marks (serial_taken d c.self.invariant c.if-self-ge-SERIAL_LIMIT.false)
    (subst Given (sym c.in_ok-root.ensures.ok) (with_domain d.catalogue c.args.path.now c.args.owner.now d.run d.serial c.self.invariant.roots))

pub returns-clause-says : goal.returns-clause-says
returns-clause-says c =
    let d : RegisterState = record { catalogue = c.self.inside.catalogue; run = c.self.inside.run; serial = c.self.inside.serial; places = c.self.inside.places; issued = c.self.inside.issued; marks = c.self.inside.marks } in
    let new : RegisterState = record d { catalogue = c.make_domain.new.catalogue; serial = d.serial + 1; marks = c.make_domain.new.marks } in
    subst (λ (x : RegisterState). StillSays x new) c.self.view_is
    (domain_left d c.args.path.now c.args.owner.now c.make_domain.new.catalogue c.make_domain.new.marks c.in_ok-root.ensures.ok c.in_ok-root.ensures.marks)
