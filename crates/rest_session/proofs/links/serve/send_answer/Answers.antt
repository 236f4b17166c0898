use Rattle.rest_session.proofs.links.serve.send_answer.Goals as goal

pub returns-clause-answered : goal.returns-clause-answered
returns-clause-answered g c =
    let w = c.send_reply-sent.ensures.sent in (w.0, w.1, c.end_after.ensures.end _ _ w.2)
