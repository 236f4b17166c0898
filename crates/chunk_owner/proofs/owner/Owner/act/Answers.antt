use Rattle.std.proofs.Common.{sym, subst}
use Rattle.object_ops.specs.Replies.{Follows}
use Rattle.chunk_owner.specs.Slots.Slots.{StillSays, objects_of}
use Rattle.chunk_owner.specs.Lanes.{Lane}
use Rattle.chunk_owner.specs.Acts.{acted, touched, IsTouchedIn}
use Rattle.chunk_owner.proofs.LaneLemmas.{owned_after}
use Rattle.chunk_owner.proofs.owner.Owner.act.Goals as goal

pub act_in-done-requires-clause-kinds : goal.act_in-done-requires-clause-kinds
act_in-done-requires-clause-kinds c = c.self.invariant.0.kinds

pub note_step-requires : goal.note_step-requires
note_step-requires c = c.act_in-done.ensures.kinds

pub invariant_of-self : goal.invariant_of-self
invariant_of-self c =
    owned_after c.self.inside.lane c.self.inside.lanes c.self.inside.slots c.act_in-done.new.slots c.self.inside.changes c.note_step.new.changes (touched c.args.grant.now c.args.op.now c.args.step)
    (subst (λ (l : Lane). IsTouchedIn l.lane l.lanes (touched c.args.grant.now c.args.op.now c.args.step)) (sym c.self.view_is) c.requires.touched)
    c.act_in-done.ensures.others c.note_step.ensures c.act_in-done.ensures.kinds c.self.invariant

pub returns-clause-acts : goal.returns-clause-acts
returns-clause-acts c =
    subst (λ (l : Lane). Follows (acted c.args.grant.now c.args.op.now c.args.step l.objects) l.objects c.act_in-done.result (objects_of c.act_in-done.new.slots)) c.self.view_is c.act_in-done.ensures.acts

pub returns-clause-says : goal.returns-clause-says
returns-clause-says c = subst (λ (l : Lane). StillSays l.slots c.act_in-done.new.slots) c.self.view_is c.act_in-done.ensures.says
