use Rattle.std.proofs.Common.{ℕ, List, subst}
use Rattle.rest_session.specs.Links.Steps.{IsWritten}
use Rattle.rest_session.proofs.links.serve.answer_skipped.Goals as goal

pub returns-clause-answered : goal.returns-clause-answered
returns-clause-answered g c =
    let w = c.send_text-sent.ensures.sent in (
      w.0,
      w.1,
      c.end_after.ensures.end _ _
          (subst (λ (l : List ℕ). IsWritten l w.0 c.send_text-sent.result) c.no_memory_reply.ensures w.2),
    )
