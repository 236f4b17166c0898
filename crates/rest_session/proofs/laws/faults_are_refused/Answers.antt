use Rattle.std.proofs.Common.{◌≡◌, [], true, refl}
use Rattle.serde_json.proofs.OnLiterals.{serde_json_on_literals}
use Rattle.http_wire.specs.Replies.{fault_reply}
use Rattle.http_wire.specs.declared.message_fault.MessageFault.{MessageFault}
use Rattle.http_wire.specs.declared.message_fault.MessageFault.TheVariants.{BadHead, HeadTooLong, BadLength, BodyTooLong, TransferCoding}
use Rattle.rest_requests.specs.Routes.Methods.{no_methods}
use Rattle.rest_session.specs.Responses.{refusal_of, refused}
use Rattle.rest_session.proofs.laws.faults_are_refused.Goals as goal

same : (fault : MessageFault) → fault_reply fault ≡ refused [] (refusal_of fault) no_methods true
unfolding fault_reply serde_json_on_literals
same BadHead = refl
same HeadTooLong = refl
same BadLength = refl
same BodyTooLong = refl
same TransferCoding = refl

pub returns : goal.returns
returns c = same
