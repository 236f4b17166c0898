use Rattle.std.proofs.Common.{◌≡◌, ℕ, Bool, List, refl}
use Rattle.serde_json.proofs.OnLiterals.{serde_json_on_literals}
use Rattle.http_wire.specs.Replies.{no_memory_reply}
use Rattle.service_core.specs.declared.answers.What.TheVariants.{NoMemory}
use Rattle.rest_session.specs.Responses.{said}
use Rattle.rest_session.proofs.laws.no_memory_is_said.Goals as goal

same : (path : List ℕ) (close : Bool) → no_memory_reply close ≡ said path NoMemory close
unfolding no_memory_reply serde_json_on_literals
same path close = refl

pub returns : goal.returns
returns c = same
