use Rattle.std.proofs.Common.{◌≡◌, ◌+◌, ◌<◌, refl, ap, sym, subst, ◌∙◌}
use Rattle.object_ids.specs.IdValues.{Id}
use Rattle.domains.specs.Changes.{domain_fault, root_of}
use Rattle.domains.specs.Contents.{Contents}
use Rattle.domains.specs.NodeTrees.{class_tree}
use Rattle.domains.specs.declared.classes.NodeClass.TheVariants.{Domain}
use Rattle.object_ops.specs.declared.replies.Reply.TheVariants.{Done}
use Rattle.register.specs.declared.verdicts.Verdict.TheVariants.{Answered}
use Rattle.register.specs.Decided.{AreGivenOut, RegisterState, domain_made, passed, serial_limit}
use Rattle.register.specs.Looks.{MaySettle}
use Rattle.register.specs.Marks.{Marked}
use Rattle.register.proofs.RegisterStates.{moved, serial_taken}
use Rattle.register.proofs.Roots.{with_domain}
use Rattle.register.proofs.Settling.{domain_settles, fault_settles, may_blame}
use Rattle.register.proofs.register.Register.put_numbered.Goals as goal

pub invariant_of-self-2 : goal.invariant_of-self-2
invariant_of-self-2 c =
    let d : RegisterState = record { catalogue = c.self.inside.catalogue; run = c.self.inside.run; serial = c.self.inside.serial; places = c.self.inside.places; issued = c.self.inside.issued; marks = c.self.inside.marks } in
    let Given : Contents → Type 0 = λ k. AreGivenOut k d.run (d.serial + 1) in
    let Below : RegisterState → Type 0 = λ x. x.serial < serial_limit in
    moved (record d { serial = d.serial + 1 }) c.make_domain-made.new.catalogue c.make_domain-made.new.marks (serial_taken d c.self.invariant (subst Below (sym c.self.view_is) c.requires.serial))
    (subst Given (sym c.in-Ok-made.ensures.ok) (with_domain d.catalogue c.args.path.now c.args.owner.now d.run d.serial c.self.invariant.roots))

pub returns-clause-settles : goal.returns-clause-settles
returns-clause-settles c =
    let d : RegisterState = record { catalogue = c.self.inside.catalogue; run = c.self.inside.run; serial = c.self.inside.serial; places = c.self.inside.places; issued = c.self.inside.issued; marks = c.self.inside.marks } in
    let Settled : RegisterState → Type 0 = λ x. (Answered c.in-Ok.reply, passed (record d { catalogue = c.make_domain-made.new.catalogue; serial = d.serial + 1; marks = c.make_domain-made.new.marks })) ≡ domain_made x c.args.path.now c.args.owner.now (domain_fault x.catalogue c.args.path.now) in
    let Below : RegisterState → Type 0 = λ x. x.serial < serial_limit in
    let Numbered : RegisterState → Type 0 = λ x. c.args.number ≡ x.catalogue.next in
    let number : c.args.number ≡ d.catalogue.next = subst Numbered (sym c.self.view_is) c.requires.number in
    subst Settled c.self.view_is
    (domain_settles d c.args.path.now c.args.owner.now (domain_fault d.catalogue c.args.path.now) c.in-Ok.reply c.make_domain-made.new.catalogue c.make_domain-made.new.marks c.in-Ok-made.ensures.why
    (subst Below (sym c.self.view_is) c.requires.serial)
    (c.in-Ok.ensures ∙ ap (λ n. Done 201 (class_tree (Domain n (root_of n d.run d.serial)) c.args.owner.now)) number)
    c.in-Ok-made.ensures.ok c.in-Ok-made.ensures.marks)

pub returns-in-Err-clause-settles : goal.returns-in-Err-clause-settles
returns-in-Err-clause-settles c =
    let d : RegisterState = record { catalogue = c.self.inside.catalogue; run = c.self.inside.run; serial = c.self.inside.serial; places = c.self.inside.places; issued = c.self.inside.issued; marks = c.self.inside.marks } in
    let with : Contents → Marked → RegisterState = λ k m. record d { catalogue = k; marks = m } in
    let Settled : RegisterState → Type 0 = λ x. MaySettle (domain_made x c.args.path.now c.args.owner.now (domain_fault x.catalogue c.args.path.now)) x c.refused.result (with c.make_domain-made.new.catalogue c.make_domain-made.new.marks) in
    subst Settled c.self.view_is
    (fault_settles Id c.args.path.now c.in-Err.fault _ (domain_made d c.args.path.now c.args.owner.now) d (with c.make_domain-made.new.catalogue c.make_domain-made.new.marks) c.refused.result
    (λ e. refl) (may_blame Id c.in-Err.fault (domain_fault d.catalogue c.args.path.now) c.in-Err.ensures.why) c.refused.ensures (λ i. with (c.in-Err.ensures.err i) (c.in-Err.ensures.unmarked i)))
