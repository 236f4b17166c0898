use Rattle.std.proofs.Common.{ap}
use Rattle.http_wire.specs.Replies.{reply_text}
use Rattle.rest_session.proofs.OfLinks.StepLemmas.{written}
use Rattle.rest_session.proofs.links.writing.send_reply.Goals as goal

pub returns-clause-sent : goal.returns-clause-sent
returns-clause-sent g c =
    written _ _ _ _ _ (ap (λ b. reply_text c.args.reply.now.status c.args.reply.now.extra b c.args.close) c.as_bytes.ensures)
    c.write_reply.ensures.ok c.write_reply.ensures.err
