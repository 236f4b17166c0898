use Rattle.chunk_owner.proofs.OfSlots.Forgotten.{forgot_fewer, forgot_first, forgot_kind, forgot_next}
use Rattle.chunk_owner.proofs.slots.forgetting.forget_kind.Goals as goal

pub loop-id-init : goal.loop-id-init
loop-id-init c =
    forgot_first c.args.kind c.args.number c.args.slots.now c.forget_at.new.slots c.first_id-last.result c.first_id-last.ensures.kind c.first_id-last.ensures.domain c.first_id-last.ensures.run c.first_id-last.ensures.serial
    c.forget_at.ensures.here c.forget_at.ensures.stays c.forget_at.ensures.others (λ q held said. c.forget_at.ensures.says q held said) c.forget_at.ensures.alone c.forget_at.ensures.kinds c.forget_at.ensures.same_ids

pub loop-id-smaller : goal.loop-id-smaller
loop-id-smaller c = forgot_fewer c.args.kind c.args.number c.args.slots.now c.loop-id.slots c.loop-id.last c.loop-id.invariant c.in-Some.id c.in-Some.ensures

pub loop-id-preserved : goal.loop-id-preserved
loop-id-preserved c =
    forgot_next c.args.kind c.args.number c.args.slots.now c.loop-id.slots c.loop-id.last c.loop-id.invariant c.forget_at-in-Some.new.slots c.in-Some.id c.in-Some.ensures
    c.forget_at-in-Some.ensures.here c.forget_at-in-Some.ensures.stays c.forget_at-in-Some.ensures.others (λ q held said. c.forget_at-in-Some.ensures.says q held said) c.forget_at-in-Some.ensures.alone c.forget_at-in-Some.ensures.kinds c.forget_at-in-Some.ensures.same_ids

pub returns-clause-rest : goal.returns-clause-rest
returns-clause-rest c = forgot_kind c.args.kind c.args.number c.args.slots.now c.loop-id.slots c.loop-id.last c.loop-id.invariant c.in_default.ensures
