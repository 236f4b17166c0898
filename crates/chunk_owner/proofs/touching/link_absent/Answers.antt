use Rattle.std.proofs.Common.{[], sym, ap, subst, ◌∙◌}
use Rattle.object_acts.specs.Objects.{unmarked, IsTrackedBody}
use Rattle.chunk_owner.specs.Slots.Slots.{objects_of}
use Rattle.chunk_owner.specs.Acts.{link_to}
use Rattle.chunk_owner.proofs.AtIds.{changes_absent, changes_root}
use Rattle.chunk_owner.proofs.touching.link_absent.Goals as goal

pub returns-then-not-is_root-clause-acts : goal.returns-then-not-is_root-clause-acts
returns-then-not-is_root-clause-acts c =
    changes_absent c.args.grant.now c.args.place.now.group (link_to c.args.place.now c.args.fresh) (objects_of c.args.slots.now) _ c.requires.own (sym c.is_root.ensures ∙ c.if-not-is_root.true) c.requires.absent c.missing.ensures

pub returns-clause-acts : goal.returns-clause-acts
returns-clause-acts c =
    let acts = c.in_ok-reply.ensures.acts in
    changes_root c.args.grant.now c.args.place.now.group (link_to c.args.place.now c.args.fresh) (objects_of c.args.slots.now) (objects_of c.put_done.new.slots) (unmarked c.link_made.new.object) c.in_ok-reply.reply c.put_done.result
    c.requires.own (sym c.is_root.ensures ∙ c.if-not-is_root.false) c.requires.absent
    (acts.0 ∙ ap (λ o. (link_to c.args.place.now c.args.fresh (unmarked o)).0) c.new_group-root.ensures)
    (acts.1 ∙ ap (λ o. (link_to c.args.place.now c.args.fresh (unmarked o)).1) c.new_group-root.ensures)
    c.put_done.ensures.acts

pub put_done-requires-clause-fresh : goal.put_done-requires-clause-fresh
put_done-requires-clause-fresh c = c.link_made.ensures.tracked (λ _. []) (subst (λ o. IsTrackedBody (λ _. []) o.body) (sym c.new_group-root.ensures) tt)
