-- The literals are the answers' bytes, once the digits are written out.
use Rattle.std.proofs.Common.{ap, sym}
use Rattle.std.specs.Fmt.{digits}
use Rattle.http_wire.specs.Replies.{fault_reply, reply_text, reply_head}
use Rattle.http_wire.proofs.message_fault.MessageFault.reply.Goals as goal

pub returns-in-BadHead : goal.returns-in-BadHead
unfolding fault_reply reply_text reply_head digits
returns-in-BadHead c = ap fault_reply (sym c.in-BadHead.is)

pub returns-in-HeadTooLong : goal.returns-in-HeadTooLong
unfolding fault_reply reply_text reply_head digits
returns-in-HeadTooLong c = ap fault_reply (sym c.in-HeadTooLong.is)

pub returns-in-BadLength : goal.returns-in-BadLength
unfolding fault_reply reply_text reply_head digits
returns-in-BadLength c = ap fault_reply (sym c.in-BadLength.is)

pub returns-in-BodyTooLong : goal.returns-in-BodyTooLong
unfolding fault_reply reply_text reply_head digits
returns-in-BodyTooLong c = ap fault_reply (sym c.in-BodyTooLong.is)

pub returns-in-TransferCoding : goal.returns-in-TransferCoding
unfolding fault_reply reply_text reply_head digits
returns-in-TransferCoding c = ap fault_reply (sym c.in-TransferCoding.is)
