-- What a message is answered in a world that is kept, and what the world is then.
--     Served      the tokens, the world, and its keeping
--     acknowledges op what      the answer says that a change of folders, domains or lists was done, or that all is kept
--     IsServed s message bytes t      a message, its answer's bytes, and what is left
use Rattle.std.specs.Prelude.{◌≡◌, ◌⊎◌, ℕ, List, [], map, codes, Bool, true, false, Option, Result, Ok, Err}
use Rattle.httparse.specs.Spans.{name_and_value}
use Rattle.http_wire.specs.Heads.{first_value}
use Rattle.http_wire.specs.Messages.{RequestMessage, closes}
use Rattle.http_wire.specs.Replies.{no_memory_reply}
use Rattle.access_lists.specs.declared.people.Caller.{Caller}
use Rattle.access_lists.specs.Tokens.Bearer.{TokenTable}
use Rattle.edge_traits.specs.declared.disk.Disk.{Ghosts}
use Rattle.flush_journal.specs.declared.why.Why.{Why}
use Rattle.flush_journal.specs.declared.keepings.keeping.Keeping.{Keeping}
use Rattle.object_ops.specs.Needs.{decided_at}
use Rattle.object_ops.specs.declared.ops.Op.{Op}
use Rattle.object_ops.specs.declared.ops.Op.TheVariants as op
use Rattle.object_ops.specs.declared.ops.Request.{Request}
use Rattle.object_ops.specs.declared.refusals.Refusal.{Refusal}
use Rattle.object_ops.specs.declared.replies.Reply.TheVariants as outcome
use Rattle.rest_requests.specs.Requests.{RequestText, allow_of, request_of}
use Rattle.service_core.specs.Records.{WorldStillSays}
use Rattle.service_core.specs.KeptWorlds.{KeepsWorld}
use Rattle.service_core.specs.Steps.{Steps}
use Rattle.service_core.specs.Worlds.{State, seen}
use Rattle.service_core.specs.declared.answers.Answer.{Answer}
use Rattle.service_core.specs.declared.answers.What.{What}
use Rattle.service_core.specs.declared.answers.What.TheVariants.{Replied}
use Rattle.rest_session.specs.Responses.{IsKeptAnswer, IsResponse, refused}

-- the first field of a name
abbrev pub field : List ℕ → RequestMessage → Option (List ℕ)
field name m = first_value name (map name_and_value m.head.fields)

-- what a message says
abbrev pub said_by : RequestMessage → RequestText
said_by m = record {
  method = m.head.method;
  target = m.head.target;
  authorization = field (codes "Authorization") m;
  domain = field (codes "X-Hdf-domain") m;
  body = m.body;
}

-- the tokens that are known, the world, and its keeping
pub record Served {D : Type 0} (met : Ghosts D) : Type 0 where
  pub tokens : TokenTable
  pub world : State
  pub keeping : Keeping D met

-- ---- what is kept before it is answered

abbrev pub is_to_keep : Op → Bool
is_to_keep op.Flush = true
is_to_keep (op.PutNode folder) = true
is_to_keep op.DropNode = true
is_to_keep (op.PutAcl name rights) = true
is_to_keep op.GetNode = false
is_to_keep op.ListNodes = false
is_to_keep op.GetAcls = false
is_to_keep (op.GetAcl name) = false
is_to_keep (op.MakeObject make link) = false
is_to_keep (op.GetObject id) = false
is_to_keep (op.DropObject id) = false
is_to_keep (op.ListLinks id) = false
is_to_keep (op.GetLink id title) = false
is_to_keep (op.PutLink id title link) = false
is_to_keep (op.DropLink id title) = false
is_to_keep (op.ListAttributes id) = false
is_to_keep (op.GetAttribute id name) = false
is_to_keep (op.PutAttribute id name attribute) = false
is_to_keep (op.DropAttribute id name) = false
is_to_keep (op.GetShape id) = false
is_to_keep (op.PutShape id dims) = false
is_to_keep (op.GetElem id) = false
is_to_keep (op.GetValue id select) = false
is_to_keep (op.PutValue id part value) = false
is_to_keep (op.GetPoints id points) = false

abbrev pub acknowledges : Op → What → Bool
acknowledges asked (Replied (outcome.Done status body)) = is_to_keep asked
acknowledges asked what = false

-- ---- a request

-- what the step left is answered; where the answer acknowledges a change, only once it is kept
abbrev pub IsFinished : {D : Type 0} {met : Ghosts D} → Bool → List ℕ → What → Bool → Keeping D met → State → List ℕ → Served met → Type 0
IsFinished false path what close keeping mid bytes t = (t.world ≡ mid) × (t.keeping ≡ keeping) × IsResponse path what close bytes
IsFinished true path what close keeping mid bytes t =
    (result : Result ℕ Why) × KeepsWorld keeping mid t.keeping t.world result × IsKeptAnswer path what close result bytes

-- one step of the world, which changes no more of it than it marks
pub record IsStepped {D : Type 0} {met : Ghosts D} (s : Served met) (caller : Caller) (request : Request) (close : Bool) (bytes : List ℕ) (t : Served met) : Type 0 where
  pub answer : Answer
  pub mid : State
  pub steps : Steps (seen s.world) caller request answer (seen mid)
  pub says : WorldStillSays s.world mid
  pub finished : IsFinished (acknowledges request.op answer.what) (decided_at request) answer.what close s.keeping mid bytes t

-- nothing changed
pub record StandsStill {D : Type 0} {met : Ghosts D} (s t : Served met) : Type 0 where
  pub world : t.world ≡ s.world
  pub keeping : t.keeping ≡ s.keeping

-- what is no request is refused, and all stays; a request is one step of the world
abbrev pub IsAnsweredBy : {D : Type 0} {met : Ghosts D} → Served met → List ℕ → Result (Caller × Request) Refusal → Bool → List ℕ → Served met → Type 0
IsAnsweredBy s target (Err refusal) close bytes t = (bytes ≡ refused [] refusal (allow_of target refusal) close) × StandsStill s t
IsAnsweredBy s target (Ok read) close bytes t = IsStepped s read.0 read.1 close bytes t

-- the bytes answer a message; what it asks is the first refusal or the request that it spells; or no memory was found, and all stays
abbrev pub IsServed : {D : Type 0} {met : Ghosts D} → Served met → RequestMessage → List ℕ → Served met → Type 0
IsServed s m bytes t =
    (t.tokens ≡ s.tokens)
    × (IsAnsweredBy s m.head.target (request_of s.tokens (said_by m)) (closes m) bytes t
    ⊎ ((bytes ≡ no_memory_reply (closes m)) × StandsStill s t))
