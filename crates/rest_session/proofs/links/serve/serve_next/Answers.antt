use Rattle.std.proofs.Common.{refl, ap, subst, inr, Bool}
use Rattle.http_wire.specs.Replies.{no_memory_reply}
use Rattle.rest_session.specs.Links.Steps.{IsAnswerEnd}
use Rattle.rest_session.proofs.OfLinks.StepLemmas.{message_step, met_step, same_link}
use Rattle.rest_session.proofs.links.serve.serve_next.Goals as goal

pub returns-in-Message-clause-step : goal.returns-in-Message-clause-step
returns-in-Message-clause-step g c =
    let taken = c.in-Message.ensures.taken.1 in
    let a = c.answer_message.ensures.answered (record { head = taken.0; body = c.in-Message.body.items }) (taken.1, c.as_slice.ensures.value) taken.2 in
    met_step g.V.Service.step g.V.Service.stop (g.V.Service.world c.args.service.now) (g.V.Service.world c.answer_message.new.service) _ _ _ _ _ _ _ _ _
    c.in-Message.ensures.room taken.2 taken.3 c.answer_message.ensures.left c.in-Message.ensures.held a

pub returns-in-Skipped-clause-step : goal.returns-in-Skipped-clause-step
returns-in-Skipped-clause-step g c =
    let taken = c.in-Skipped.ensures.taken in
    let a = c.answer_skipped.ensures.answered in
    same_link g.V.Service.step _ _ _ _ _ _ _ _ _ _ c.answer_skipped.ensures.left c.in-Skipped.ensures.held
    (message_step g.V.Service.step (g.V.Service.world c.args.service.now) (g.V.Service.world c.args.service.now) _ _ _ _ _ taken.0
    (no_memory_reply c.in-Skipped.close) a.0 _ c.in-Skipped.ensures.room taken.1 taken.2 (inr (ap no_memory_reply taken.3, refl)) a.1
    (subst (λ (b : Bool). IsAnswerEnd b (no_memory_reply c.in-Skipped.close) a.0 c.answer_skipped.result) taken.3 a.2))
