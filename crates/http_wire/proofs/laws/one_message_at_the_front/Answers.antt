use Rattle.http_wire.proofs.MessageLemmas.{message_unique}
use Rattle.http_wire.proofs.laws.one_message_at_the_front.Goals as goal

pub returns : goal.returns
returns c = message_unique
