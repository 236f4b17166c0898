use Rattle.std.proofs.Common.{sym, subst}
use Rattle.domains.specs.Contents.{Contents}
use Rattle.register.specs.Decided.{AreGivenOut, RegisterState}
use Rattle.register.proofs.RegisterStates.{moved}
use Rattle.register.proofs.Roots.{without}
use Rattle.register.proofs.register.Register.drop_node.Goals as goal

pub invariant_of-self-2 : goal.invariant_of-self-2
invariant_of-self-2 c =
    let d : RegisterState = record { catalogue = c.self.inside.catalogue; run = c.self.inside.run; serial = c.self.inside.serial; places = c.self.inside.places; issued = c.self.inside.issued; marks = c.self.inside.marks } in
    let Given : Contents → Type 0 = λ k. AreGivenOut k d.run d.serial in
    moved d c.remove_node.new.catalogue c.remove_node.new.marks c.self.invariant (subst Given (sym c.in-Ok.ensures.ok) (without d.catalogue c.args.path.now d.run d.serial c.self.invariant.roots))
