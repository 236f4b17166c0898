use Rattle.std.proofs.Common.{sym, ◌∙◌}
use Rattle.object_acts.specs.Acts.{reply_of}
use Rattle.chunk_owner.specs.Slots.Slots.{objects_of}
use Rattle.chunk_owner.proofs.OfSlots.Standing.{get-objects_of}
use Rattle.chunk_owner.proofs.AtIds.{reads_own, reads_foreign}
use Rattle.chunk_owner.proofs.touching.read_in.Goals as goal

pub returns-then-not-is_own : goal.returns-then-not-is_own
returns-then-not-is_own c =
    reads_foreign c.args.grant.now c.args.id.now (reply_of c.args.grant.now.root c.args.op.now) (objects_of c.args.slots.now) _ (sym c.is_own.ensures ∙ c.if-not-is_own.true) c.missing.ensures

pub reply-requires-clause-sound : goal.reply-requires-clause-sound
reply-requires-clause-sound c = (c.in-Some.ensures.kind c.requires.kinds).sound

pub returns-in-Some : goal.returns-in-Some
returns-in-Some c =
    reads_own c.args.grant.now c.args.id.now (reply_of c.args.grant.now.root c.args.op.now) (objects_of c.args.slots.now) _ c.reply.result (sym c.is_own.ensures ∙ c.if-not-is_own.false)
    (get-objects_of c.args.slots.now c.args.id.now ∙ sym c.in-Some.ensures.value) c.reply.ensures

pub returns-in-None : goal.returns-in-None
returns-in-None c =
    reads_own c.args.grant.now c.args.id.now (reply_of c.args.grant.now.root c.args.op.now) (objects_of c.args.slots.now) _ c.read_absent.result (sym c.is_own.ensures ∙ c.if-not-is_own.false)
    (get-objects_of c.args.slots.now c.args.id.now ∙ sym c.in-None.ensures.value) c.read_absent.ensures
