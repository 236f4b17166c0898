use Rattle.std.proofs.Common.{Bool, refl, subst}
use Rattle.http_wire.specs.Messages.{closes}
use Rattle.rest_session.specs.Links.Replies.{reply_bytes}
use Rattle.rest_session.specs.Links.Steps.{IsAnswerEnd}
use Rattle.rest_session.proofs.links.serve.answer_message.Goals as goal

pub returns-in-Ok-clause-answered : goal.returns-in-Ok-clause-answered
returns-in-Ok-clause-answered g c = λ m heard spelled.
    let w = c.send_answer.ensures.answered in (
      reply_bytes c.in-Ok.reply (closes m),
      w.0,
      c.in-Ok.ensures.step m heard spelled,
      w.1,
      subst (λ (b : Bool). IsAnswerEnd b (reply_bytes c.in-Ok.reply b) w.0 c.send_answer.result) (c.closes.ensures m heard) w.2,
    )

pub returns-in-Err-clause-answered : goal.returns-in-Err-clause-answered
returns-in-Err-clause-answered g c = λ m heard spelled. (refl, c.in-Err.ensures.step m heard spelled)
