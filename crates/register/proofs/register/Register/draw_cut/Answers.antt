use Rattle.register.specs.Decided.{RegisterState}
use Rattle.register.proofs.RegisterStates.{recounted}
use Rattle.register.proofs.register.Register.draw_cut.Goals as goal

pub invariant_of-self : goal.invariant_of-self
invariant_of-self c =
    let d : RegisterState = record { catalogue = c.self.inside.catalogue; run = c.self.inside.run; serial = c.self.inside.serial; places = c.self.inside.places; issued = c.self.inside.issued; marks = c.self.inside.marks } in
    recounted d c.all_counted-self-inside.result c.self.invariant c.all_counted-self-inside.ensures.lanes
