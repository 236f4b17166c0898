use Rattle.std.proofs.Common.{Option, Some, None, subst}
use Rattle.object_ids.specs.IdValues.{Id}
use Rattle.chunk_owner.specs.Slots.Listed.{IsNextLook}
use Rattle.chunk_owner.proofs.OfSlots.CutWalks.{settled_all, settled_listed, settled_more, settled_smaller}
use Rattle.chunk_owner.proofs.slots.settling.settle_all.Goals as goal

pub loop-id-smaller : goal.loop-id-smaller
loop-id-smaller c =
    let listed = settled_listed c.args.slots.now c.loop-id.slots c.loop-id.last c.loop-id.invariant c.args.changes.now c.requires in
    settled_smaller c.args.slots.now c.loop-id.slots c.loop-id.last c.loop-id.invariant c.args.changes.now c.in-Some.id
    (subst (λ (after : Option Id). IsNextLook c.loop-id.slots after (Some c.in-Some.id)) c.as_ref.ensures.value (c.in-Some.ensures.look listed)) c.in-Some.ensures.looked

pub loop-id-preserved : goal.loop-id-preserved
loop-id-preserved c =
    let listed = settled_listed c.args.slots.now c.loop-id.slots c.loop-id.last c.loop-id.invariant c.args.changes.now c.requires in
    settled_more c.args.slots.now c.loop-id.slots c.loop-id.last c.loop-id.invariant c.settle_at.new.slots c.in-Some.id
    (subst (λ (after : Option Id). IsNextLook c.loop-id.slots after (Some c.in-Some.id)) c.as_ref.ensures.value (c.in-Some.ensures.look listed))
    c.settle_at.ensures.here c.settle_at.ensures.others

pub returns : goal.returns
returns c =
    let listed = settled_listed c.args.slots.now c.loop-id.slots c.loop-id.last c.loop-id.invariant c.args.changes.now c.requires in
    settled_all c.args.slots.now c.loop-id.slots c.loop-id.last c.loop-id.invariant
    (subst (λ (after : Option Id). IsNextLook c.loop-id.slots after None) c.as_ref.ensures.value (c.in_default.ensures.look listed))
