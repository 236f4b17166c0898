use Rattle.register.specs.Decided.{RegisterState}
use Rattle.register.proofs.RegisterStates.{serial_taken}
use Rattle.register.proofs.register.Register.fresh.Goals as goal

pub invariant_of-self : goal.invariant_of-self
invariant_of-self c =
    let d : RegisterState = record { catalogue = c.self.inside.catalogue; run = c.self.inside.run; serial = c.self.inside.serial; places = c.self.inside.places; issued = c.self.inside.issued; marks = c.self.inside.marks } in
    serial_taken d c.self.invariant c.if-self-ge-SERIAL_LIMIT.false
