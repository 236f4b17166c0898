use Rattle.std.proofs.Common.{refl}
use Rattle.http_wire.specs.Replies.{no_memory_reply}
use Rattle.rest_session.proofs.answers.no_memory.Goals as goal

pub returns : goal.returns
unfolding no_memory_reply
returns c = λ close. refl
