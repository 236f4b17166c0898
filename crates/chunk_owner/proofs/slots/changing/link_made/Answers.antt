use Rattle.std.proofs.Common.{cond, ap, ◌∙◌}
use Rattle.groups_links.specs.declared.target.LinkTo.TheVariants.{Hard}
use Rattle.chunk_owner.specs.declared.slots.slot.Mark.TheVariants.{Changed}
use Rattle.chunk_owner.proofs.OfSlots.StillTold.{link_said, unchanged_said}
use Rattle.chunk_owner.proofs.slots.changing.link_made.Goals as goal

pub returns-in_err-reply-clause-says : goal.returns-in_err-reply-clause-says
returns-in_err-reply-clause-says c = λ id held. unchanged_said c.args.slot.now c.link_made.new.object id held c.requires.live c.link_made.ensures.tracked c.in_err-reply.ensures.acts

pub returns-clause-says : goal.returns-clause-says
returns-clause-says c = λ id held.
    link_said c.args.id.now c.args.title.now (Hard c.args.fresh) c.args.slot.now c.link_made.new.object c.in_ok-reply.reply c.mark_after-slot.result id held c.refusals_leave_the_object.ensures.link
    c.in_ok-reply.ensures.acts.0 c.in_ok-reply.ensures.acts.1 (c.mark_after-slot.ensures ∙ ap (λ b. cond b Changed c.args.slot.now.mark) c.was_done.ensures) c.requires.live c.link_made.ensures.tracked
