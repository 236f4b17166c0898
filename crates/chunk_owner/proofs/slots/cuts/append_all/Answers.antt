use Rattle.std.proofs.Common.{Option, Some, None, subst}
use Rattle.flush_journal.specs.Batches.{records}
use Rattle.object_ids.specs.IdValues.{Id}
use Rattle.chunk_owner.specs.Slots.Listed.{IsNextLook}
use Rattle.chunk_owner.proofs.OfSlots.CutWalks.{appended_all, appended_front, appended_more}
use Rattle.chunk_owner.proofs.OfSlots.Listing.{fewer_looks}
use Rattle.chunk_owner.proofs.slots.cuts.append_all.Goals as goal

pub returns-in_err-append_id-clause-bodies : goal.returns-in_err-append_id-clause-bodies
returns-in_err-append_id-clause-bodies c =
    appended_front c.args.slots.now (records c.args.into.now) (records c.loop-id.into) c.loop-id.last c.requires.kinds c.loop-id.invariant c.in-Some.id c.in_err-append_id.ensures.range
    (subst (λ (after : Option Id). IsNextLook c.args.slots.now after (Some c.in-Some.id)) c.as_ref.ensures.value (c.in-Some.ensures.look c.requires.listed))
    (records c.append_id.new.into) c.in_err-append_id.ensures.front

pub loop-id-smaller : goal.loop-id-smaller
loop-id-smaller c =
    let next = subst (λ (after : Option Id). IsNextLook c.args.slots.now after (Some c.in-Some.id)) c.as_ref.ensures.value (c.in-Some.ensures.look c.requires.listed) in
    fewer_looks c.args.changes.now c.args.slots.now c.loop-id.last c.in-Some.id next.0 c.in-Some.ensures.looked

pub loop-id-preserved : goal.loop-id-preserved
loop-id-preserved c =
    appended_more c.args.slots.now (records c.args.into.now) (records c.loop-id.into) c.loop-id.last c.requires.kinds c.loop-id.invariant c.in-Some.id c.in_ok-append_id.ensures.range
    (subst (λ (after : Option Id). IsNextLook c.args.slots.now after (Some c.in-Some.id)) c.as_ref.ensures.value (c.in-Some.ensures.look c.requires.listed))
    (records c.append_id.new.into) c.in_ok-append_id.ensures.added

pub returns-clause-cut : goal.returns-clause-cut
returns-clause-cut c =
    appended_all c.args.slots.now (records c.args.into.now) (records c.loop-id.into) c.loop-id.last c.requires.kinds c.loop-id.invariant
    (subst (λ (after : Option Id). IsNextLook c.args.slots.now after None) c.as_ref.ensures.value (c.in_default.ensures.look c.requires.listed))
