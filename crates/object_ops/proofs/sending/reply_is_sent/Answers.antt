use denote.Param.Send.{sendable}
use Rattle.std.proofs.Crossing.{crosses}
use Rattle.object_ops.proofs.Sent.{reply_send}
use Rattle.object_ops.proofs.sending.reply_is_sent.Goals as goal

pub is_sent-requires-send-T : goal.is_sent-requires-send-T
is_sent-requires-send-T c κs = search (sendable, crosses, reply_send) depth 40 fits 5000
