-- The literals are the answers' bytes, once the digits are written out.
use Rattle.std.proofs.Common.{ap, sym}
use Rattle.std.specs.Fmt.{digits}
use Rattle.http_wire.specs.Replies.{no_memory_reply, reply_text, reply_head}
use Rattle.http_wire.proofs.replies.no_memory_reply.Goals as goal

pub returns-then-close : goal.returns-then-close
unfolding no_memory_reply reply_text reply_head digits
returns-then-close c = ap no_memory_reply (sym c.if-close.true)

pub returns-else-close : goal.returns-else-close
unfolding no_memory_reply reply_text reply_head digits
returns-else-close c = ap no_memory_reply (sym c.if-close.false)
