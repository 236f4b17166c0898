use Rattle.chunk_owner.proofs.OfSlots.Forgotten.{forgot_alone, forgot_others, forgot_rest}
use Rattle.chunk_owner.proofs.slots.forgetting.forget.Goals as goal

pub returns-clause-rest : goal.returns-clause-rest
returns-clause-rest c = forgot_rest c.args.number c.args.slots.now c.forget_kind.new.slots c.forget_kind-2.new.slots c.forget_kind-3.new.slots c.forget_kind.ensures.rest c.forget_kind-2.ensures.rest c.forget_kind-3.ensures.rest

pub returns-clause-alone : goal.returns-clause-alone
returns-clause-alone c = forgot_alone c.args.number c.args.slots.now c.forget_kind.new.slots c.forget_kind-2.new.slots c.forget_kind-3.new.slots c.forget_kind.ensures.rest c.forget_kind-2.ensures.rest c.forget_kind-3.ensures.rest
    c.forget_kind.ensures.alone c.forget_kind-2.ensures.alone c.forget_kind-3.ensures.alone

pub returns-clause-others : goal.returns-clause-others
returns-clause-others c = forgot_others c.args.number c.args.slots.now c.forget_kind.new.slots c.forget_kind-2.new.slots c.forget_kind-3.new.slots c.forget_kind.ensures.rest c.forget_kind-2.ensures.rest c.forget_kind-3.ensures.rest
