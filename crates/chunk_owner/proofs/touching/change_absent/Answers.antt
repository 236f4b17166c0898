use Rattle.std.proofs.Common.{[], sym, ap, subst, ◌∙◌}
use Rattle.object_acts.specs.Acts.{change_of}
use Rattle.object_acts.specs.Objects.{unmarked, IsOfKind, IsTrackedBody}
use Rattle.chunk_owner.specs.Slots.Slots.{objects_of}
use Rattle.chunk_owner.proofs.AtIds.{changes_absent, changes_root, root_kind}
use Rattle.chunk_owner.proofs.touching.change_absent.Goals as goal

pub returns-then-not-is_root-clause-acts : goal.returns-then-not-is_root-clause-acts
returns-then-not-is_root-clause-acts c =
    changes_absent c.args.grant.now c.args.id.now (change_of c.args.op.now) (objects_of c.args.slots.now) _ c.requires.own (sym c.is_root.ensures ∙ c.if-not-is_root.true) c.requires.absent c.missing.ensures

pub returns-clause-acts : goal.returns-clause-acts
returns-clause-acts c =
    let acts = c.in_ok-reply.ensures.acts in
    changes_root c.args.grant.now c.args.id.now (change_of c.args.op.now) (objects_of c.args.slots.now) (objects_of c.put_done.new.slots) (unmarked c.change.new.object) c.in_ok-reply.reply c.put_done.result
    c.requires.own (sym c.is_root.ensures ∙ c.if-not-is_root.false) c.requires.absent
    (acts.0 ∙ ap (λ o. (change_of c.args.op.now (unmarked o)).0) c.new_group-root.ensures)
    (acts.1 ∙ ap (λ o. (change_of c.args.op.now (unmarked o)).1) c.new_group-root.ensures)
    c.put_done.ensures.acts

pub put_done-requires-clause-kind : goal.put_done-requires-clause-kind
put_done-requires-clause-kind c =
    let kind = root_kind c.args.id.now c.args.grant.now.root (sym c.is_root.ensures ∙ c.if-not-is_root.false) c.requires.root in
    c.change.ensures.kind c.args.id.now.kind (subst (λ o. IsOfKind c.args.id.now.kind o) (sym c.new_group-root.ensures) (record { kind = sym kind; sound = tt }))

pub put_done-requires-clause-fresh : goal.put_done-requires-clause-fresh
put_done-requires-clause-fresh c = c.change.ensures.tracked (λ _. []) (subst (λ o. IsTrackedBody (λ _. []) o.body) (sym c.new_group-root.ensures) tt)
