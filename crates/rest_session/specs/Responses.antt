-- The bytes of answers to requests.
use Rattle.std.specs.Prelude.{◌≡◌, ◌⊎◌, ℕ, ◌≤◌, List, [], Bool, Some, Result, Ok, Err, codes}
use Rattle.serde_json.specs.Data.{Data, depth, object}
use Rattle.serde_json.specs.Read.{read, max_depth}
use Rattle.serde_json.specs.Written.{compact_text}
use Rattle.flush_journal.specs.declared.why.Why.{Why}
use Rattle.flush_journal.specs.declared.why.Why.TheVariants as why
use Rattle.http_wire.specs.Replies.{reply_text, no_memory_reply}
use Rattle.http_wire.specs.declared.extra.Extra.{Extra}
use Rattle.http_wire.specs.declared.extra.Extra.TheVariants as extra
use Rattle.http_wire.specs.declared.extra.Methods as wire
use Rattle.http_wire.specs.declared.message_fault.MessageFault.{MessageFault}
use Rattle.http_wire.specs.declared.message_fault.MessageFault.TheVariants as fault
use Rattle.object_ops.specs.Refusals.{status_of, refusal_tree, reason_alone}
use Rattle.object_ops.specs.declared.refusals.Refusal.{Refusal}
use Rattle.object_ops.specs.declared.refusals.Refusal.TheVariants.{BadToken, Forbidden, Method, DiskFault, JournalFull, BadHead, HeadTooLong, BadLength, BodyTooLong, TransferCoding}
use Rattle.object_ops.specs.declared.replies.Reply.TheVariants as outcome
use Rattle.rest_requests.specs.Routes.Methods.{no_methods}
use Rattle.rest_requests.specs.declared.routes.routes.Methods.{Methods}
use Rattle.service_core.specs.declared.answers.What.{What}
use Rattle.service_core.specs.declared.answers.What.TheVariants.{Replied, Denied, NoMemory}

-- the tree that an answer says in its body, where the request was decided at a path
abbrev pub body_tree : List ℕ → What → Data
body_tree path (Replied (outcome.Done status body)) = body
body_tree path (Replied (outcome.Refused refusal)) = refusal_tree path refusal
body_tree path (Denied right) = refusal_tree path (Forbidden right)
body_tree path NoMemory = object (reason_alone (codes "no-memory"))

-- the body: the tree as compact JSON
abbrev pub body_text : List ℕ → What → List ℕ
body_text path what = compact_text (body_tree path what)

-- the text is the tree as compact JSON, and reads as the tree where that nests at most 127 deep
pub record IsJson (tree : Data) (text : List ℕ) : Type 0 where
  pub exact : text ≡ compact_text tree
  pub reads_back : depth tree ≤ max_depth → read text ≡ Some tree

-- the methods of a route, as an answer lists them
abbrev pub listed : Methods → wire.Methods
listed m = record { delete = m.delete; get = m.get; post = m.post; put = m.put }

-- the header line that a refusal has beside: the scheme where credentials or a right are wanting, the methods where the method is
abbrev pub extra_of : Refusal → Methods → Extra
extra_of BadToken allow = extra.Bearer
extra_of (Forbidden right) allow = extra.Bearer
extra_of Method allow = extra.Allow (listed allow)
extra_of refusal allow = extra.None

-- a refusal, decided at a path
abbrev pub refused : List ℕ → Refusal → Methods → Bool → List ℕ
refused path refusal allow close =
    reply_text (status_of refusal) (extra_of refusal allow) (body_text path (Replied (outcome.Refused refusal))) close

abbrev pub status_said : What → ℕ
status_said (Replied (outcome.Done status body)) = status
status_said (Replied (outcome.Refused refusal)) = status_of refusal
status_said (Denied right) = status_of (Forbidden right)
status_said NoMemory = 507

abbrev pub extra_said : What → Extra
extra_said (Replied (outcome.Done status body)) = extra.None
extra_said (Replied (outcome.Refused refusal)) = extra_of refusal no_methods
extra_said (Denied right) = extra_of (Forbidden right) no_methods
extra_said NoMemory = extra.None

-- the bytes are an answer with this status
pub record HasStatus (status : ℕ) (bytes : List ℕ) : Type 0 where
  pub more : Extra
  pub body : List ℕ
  pub close : Bool
  pub written : bytes ≡ reply_text status more body close

-- an answer to a request that was decided at a path
abbrev pub said : List ℕ → What → Bool → List ℕ
said path what close = reply_text (status_said what) (extra_said what) (body_text path what) close

-- the bytes say it, and their body reads as its tree
abbrev pub IsSaid : List ℕ → What → Bool → List ℕ → Type 0
IsSaid path what close bytes = (bytes ≡ said path what close) × IsJson (body_tree path what) (body_text path what)

-- they say it, or that there was no memory for their text
abbrev pub IsResponse : List ℕ → What → Bool → List ℕ → Type 0
IsResponse path what close bytes = IsSaid path what close bytes ⊎ (bytes ≡ no_memory_reply close)

-- the answer where a change stands that was not kept; or that there was no memory
abbrev pub IsUnkept : Why → Bool → List ℕ → Type 0
IsUnkept why.DiskFault close bytes = (bytes ≡ refused [] DiskFault no_methods close) ⊎ (bytes ≡ no_memory_reply close)
IsUnkept (why.JournalFull end need room) close bytes = (bytes ≡ refused [] (JournalFull end need room) no_methods close) ⊎ (bytes ≡ no_memory_reply close)
IsUnkept why close bytes = bytes ≡ no_memory_reply close

-- an answer that acknowledges nothing that isn't kept
abbrev pub IsKeptAnswer : {T : Type 0} → List ℕ → What → Bool → Result T Why → List ℕ → Type 0
IsKeptAnswer path what close (Ok kept) bytes = IsResponse path what close bytes
IsKeptAnswer path what close (Err why) bytes = IsUnkept why close bytes

-- the refusal that bytes meet which are no message
abbrev pub refusal_of : MessageFault → Refusal
refusal_of fault.BadHead = BadHead
refusal_of fault.HeadTooLong = HeadTooLong
refusal_of fault.BadLength = BadLength
refusal_of fault.BodyTooLong = BodyTooLong
refusal_of fault.TransferCoding = TransferCoding
