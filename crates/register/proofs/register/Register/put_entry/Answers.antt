use Rattle.std.proofs.Common.{◌≡◌, refl, sym, subst}
use Rattle.domains.specs.Contents.{Contents}
use Rattle.domains.specs.Changes.{entry_fault}
use Rattle.object_ops.specs.Replies.{nothing}
use Rattle.object_ops.specs.declared.replies.Reply.TheVariants.{Done}
use Rattle.register.specs.declared.verdicts.Verdict.TheVariants.{Answered}
use Rattle.register.specs.Decided.{AreGivenOut, RegisterState, entry_put, passed}
use Rattle.register.specs.Looks.{MaySettle}
use Rattle.register.specs.Marks.{Marked}
use Rattle.register.proofs.RegisterStates.{moved}
use Rattle.register.proofs.Roots.{with_list}
use Rattle.register.proofs.Settling.{change_settles, fault_settles}
use Rattle.register.proofs.register.Register.put_entry.Goals as goal

pub invariant_of-self : goal.invariant_of-self
invariant_of-self c =
    let d : RegisterState = record { catalogue = c.self.inside.catalogue; run = c.self.inside.run; serial = c.self.inside.serial; places = c.self.inside.places; issued = c.self.inside.issued; marks = c.self.inside.marks } in
    let Given : Contents → Type 0 = λ k. AreGivenOut k d.run d.serial in
    moved d c.set_entry.new.catalogue c.set_entry.new.marks c.self.invariant (subst Given (sym c.in-Err.ensures.err) c.self.invariant.roots)

pub invariant_of-self-2 : goal.invariant_of-self-2
invariant_of-self-2 c =
    let d : RegisterState = record { catalogue = c.self.inside.catalogue; run = c.self.inside.run; serial = c.self.inside.serial; places = c.self.inside.places; issued = c.self.inside.issued; marks = c.self.inside.marks } in
    let Given : Contents → Type 0 = λ k. AreGivenOut k d.run d.serial in
    moved d c.set_entry.new.catalogue c.set_entry.new.marks c.self.invariant
    (subst Given (sym c.in-Ok.ensures.ok) (with_list d.catalogue c.args.path.now c.args.name.now c.args.rights d.run d.serial c.self.invariant.roots))

pub returns-in-Err-clause-settles : goal.returns-in-Err-clause-settles
returns-in-Err-clause-settles c =
    let d : RegisterState = record { catalogue = c.self.inside.catalogue; run = c.self.inside.run; serial = c.self.inside.serial; places = c.self.inside.places; issued = c.self.inside.issued; marks = c.self.inside.marks } in
    let with : Contents → Marked → RegisterState = λ k m. record d { catalogue = k; marks = m } in
    let Settled : RegisterState → Type 0 = λ x. MaySettle (entry_put x c.args.path.now c.args.name.now c.args.rights (entry_fault x.catalogue c.args.path.now c.args.name.now)) x c.refused.result (with c.set_entry.new.catalogue c.set_entry.new.marks) in
    subst Settled c.self.view_is
    (fault_settles (Unit {0}) c.args.path.now c.in-Err.fault _ (entry_put d c.args.path.now c.args.name.now c.args.rights) d (with c.set_entry.new.catalogue c.set_entry.new.marks) c.refused.result
    (λ e. refl) c.in-Err.ensures.why c.refused.ensures (λ i. with (c.in-Err.ensures.err i) (c.in-Err.ensures.unmarked i)))

pub returns-clause-settles : goal.returns-clause-settles
returns-clause-settles c =
    let d : RegisterState = record { catalogue = c.self.inside.catalogue; run = c.self.inside.run; serial = c.self.inside.serial; places = c.self.inside.places; issued = c.self.inside.issued; marks = c.self.inside.marks } in
    let Settled : RegisterState → Type 0 = λ x. (Answered c.done.result, passed (record d { catalogue = c.set_entry.new.catalogue; marks = c.set_entry.new.marks })) ≡ entry_put x c.args.path.now c.args.name.now c.args.rights (entry_fault x.catalogue c.args.path.now c.args.name.now) in
    subst Settled c.self.view_is
    (change_settles (entry_put d c.args.path.now c.args.name.now c.args.rights) _ c.done.result (Done 201 nothing) d c.args.path.now c.set_entry.new.catalogue _ c.set_entry.new.marks c.in-Ok.ensures.why c.done.ensures c.in-Ok.ensures.ok c.in-Ok.ensures.marks refl)
