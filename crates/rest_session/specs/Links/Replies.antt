-- A service's answers.
--     reply_bytes reply close      the bytes of an answer
--     IsMet step stop w m met v      a message was answered by a step of the world, or ended its link
use Rattle.std.specs.Prelude.{ℕ, List, Bool, Result, Ok, Err, string_bytes}
use Rattle.http_wire.specs.Messages.{RequestMessage, closes}
use Rattle.http_wire.specs.Replies.{reply_text}
use Rattle.rest_session.specs.Links.Links.{Step, Stop}
use Rattle.rest_session.specs.declared.links.response.Response.{Response}
use Rattle.rest_session.specs.declared.links.response.ResponseBody.{ResponseBody}
use Rattle.rest_session.specs.declared.links.response.ResponseBody.TheVariants.{Text, Fixed}

abbrev pub body_bytes : ResponseBody → List ℕ
body_bytes (Text text) = string_bytes text
body_bytes (Fixed text) = text.now

-- the whole answer, where the link ends after it or goes on
abbrev pub reply_bytes : Response → Bool → List ℕ
reply_bytes reply close = reply_text reply.status reply.extra (body_bytes reply.body) close

-- a step of the world gave the answer; or the service ended the link, where it may
abbrev pub IsMet : {W E : Type 0} → Step W → Stop W E → W → RequestMessage → Result Response E → W → Type 0
IsMet step stop w m (Ok reply) v = step w m (reply_bytes reply (closes m)) v
IsMet step stop w m (Err end) v = stop w m end v
