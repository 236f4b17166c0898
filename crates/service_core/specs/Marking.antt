-- What a request marks for the next cut.
--     AddsWorldMarks P old new      each key that is marked was marked before, or is one of these
--     AddsLaneMarks P old new      the same of lanes
--     IsNodeMark request v key      of the register: of a node, or of the next domain's number
--     IsTurnMark g op turns old key      of an object: of what one of the turns changed
--     IsForgetMark number old key      of what the removal of a domain dropped
--     IsRequestMark w caller request key      any of them
--     AddsRequestMarks old caller request what new      only those are marked, and where memory ran out
--         none, or those of the turns before the one that found none
use Rattle.std.specs.Prelude.{◌≡◌, ℕ, ◌⊎◌, true, false, Bool, List, ◌∷◌, ◌++◌, Option, Some, None, Result, Ok, Err}
use Rattle.std.specs.FinMap.{get}
use Rattle.object_ids.specs.IdValues.{Id}
use Rattle.object_ids.specs.declared.ids.Kind.TheVariants.{Dataset}
use Rattle.access_lists.specs.declared.people.Caller.{Caller}
use Rattle.object_ops.specs.Replies.{was_done}
use Rattle.object_ops.specs.declared.grants.Grant.{Grant}
use Rattle.object_ops.specs.declared.replies.Reply.{Reply}
use Rattle.object_ops.specs.declared.grants.Step.{Step}
use Rattle.object_ops.specs.declared.ops.Request.{Request}
use Rattle.object_ops.specs.declared.ops.Op.{Op}
use Rattle.object_ops.specs.declared.ops.Op.TheVariants.{DropNode, DropObject, Flush, GetAcl, GetAcls, GetNode, ListNodes, PutAcl, PutNode}
use Rattle.object_acts.specs.Acts.{reads_object}
use Rattle.object_acts.specs.Objects.{Objects}
use Rattle.object_acts.specs.declared.objects.Object.{Object}
use Rattle.object_records.specs.Keys.Keys.{chunk_key, next_key, node_key, object_key}
use Rattle.chunk_owner.specs.Acts.{acted, touched}
use Rattle.chunk_owner.specs.Lanes.{Lane}
use Rattle.chunk_owner.specs.Marks.{IsChangeMark}
use Rattle.chunk_owner.specs.Owners.Joined.{whole}
use Rattle.chunk_owner.specs.Owners.Records.{IsMarkedIn}
use Rattle.chunk_owner.specs.Slots.Slots.{is_index}
use Rattle.register.specs.Decided.{decided}
use Rattle.register.specs.Tickets.{Issue}
use Rattle.register.specs.declared.tickets.Turn.{Turn}
use Rattle.register.specs.declared.verdicts.Verdict.{Verdict}
use Rattle.register.specs.declared.verdicts.Verdict.TheVariants.{Answered, Granted}
use Rattle.service_core.specs.declared.answers.What.{What}
use Rattle.service_core.specs.declared.answers.What.TheVariants.{NoMemory}
use Rattle.service_core.specs.Records.{IsWorldMarked}
use Rattle.service_core.specs.Steps.{StopsIn, World, run_on, started}
use Rattle.service_core.specs.Worlds.{State, seen}

abbrev pub AddsWorldMarks : (List ℕ → Type 0) → State → State → Type 0
AddsWorldMarks P old new = (key : List ℕ) → IsWorldMarked new key → IsWorldMarked old key ⊎ P key

abbrev pub AddsLaneMarks : (List ℕ → Type 0) → List Lane → List Lane → Type 0
AddsLaneMarks P old new = (key : List ℕ) → IsMarkedIn new key → IsMarkedIn old key ⊎ P key

-- ---- of the register

-- the operation makes, changes or removes a node; all others read nodes, keep, or are on objects
abbrev pub changes_node : Op → Bool
changes_node GetNode = false
changes_node (PutNode folder) = true
changes_node Flush = false
changes_node DropNode = true
changes_node ListNodes = false
changes_node GetAcls = false
changes_node (GetAcl name) = false
changes_node (PutAcl name rights) = true
changes_node op = false

-- it is granted, or answered as done
abbrev pub is_allowed : Verdict → Bool
is_allowed (Granted issue) = true
is_allowed (Answered answer) = was_done answer
is_allowed verdict = false

-- the node at the request's path, once it is made, changed or removed; and the next domain's
-- number, once a domain is made
pub data IsNodeMark (request : Request) (v : Verdict) (key : List ℕ) : Type 0 where
  of_node : changes_node request.op ≡ true → is_allowed v ≡ true → key ≡ node_key request.path
      → IsNodeMark request v key
  of_number : request.op ≡ PutNode false → is_allowed v ≡ true → key ≡ next_key
      → IsNodeMark request v key

-- ---- of objects

-- of an object that stood, or of one of its chunks
abbrev pub IsRemovalMark : Id → Option Object → List ℕ → Type 0
IsRemovalMark id None key = ⊥
IsRemovalMark id (Some o) key =
    (key ≡ object_key id) ⊎ ((i : List ℕ) × (key ≡ chunk_key id i) × (is_index i ≡ true) × (id.kind ≡ Dataset))

-- what is removed is marked whole; of what changes the object, or the chunks that are written
-- or truncated
abbrev pub IsObjectMark : Id → Op → Option Object → List ℕ → Type 0
IsObjectMark id (DropObject at) o key = IsRemovalMark id o key
IsObjectMark id op o key = IsChangeMark id op o key

-- a step that is done, and doesn't just read, of what changes of the object that it touches
pub record IsStepMark (g : Grant) (op : Op) (s : Step) (m : Objects) (key : List ℕ) : Type 0 where
  pub id : Id
  pub at : touched g op s ≡ Some id
  pub changes : reads_object op ≡ false
  pub done : was_done (acted g op s m).0 ≡ true
  pub part : IsObjectMark id op (get m id) key

-- the same of what is taken in a turn
abbrev pub IsTakenMark : Grant → Op → Option Step → Objects → List ℕ → Type 0
IsTakenMark g op None m key = ⊥
IsTakenMark g op (Some step) m key = IsStepMark g op step m key

-- one of the turns was reached, and marks the key, of the objects as the turns before it left them
pub record IsTurnMark (g : Grant) (op : Op) (turns : List Turn) (old : Objects) (key : List ℕ) : Type 0 where
  pub front : List Turn
  pub turn : Turn
  pub rest : List Turn
  pub split : turns ≡ front ++ turn ∷ rest
  pub reached : was_done (run_on g op (started old) front).0 ≡ true
  pub mark : IsTakenMark g op turn.step (run_on g op (started old) front).1 key

-- of an object that stood in the domain of a number
pub record IsForgetMark (number : ℕ) (m : Objects) (key : List ℕ) : Type 0 where
  pub id : Id
  pub of : id.domain ≡ number
  pub part : IsRemovalMark id (get m id) key

-- the removal of a domain drops its objects; every other granted request takes its turns
abbrev pub IsServiceMark : Op → Issue → Objects → List ℕ → Type 0
IsServiceMark DropNode issue old key = IsForgetMark issue.grant.number old key
IsServiceMark op issue old key = IsTurnMark issue.grant op issue.left old key

-- only what is granted changes an object
abbrev pub IsVerdictMark : Op → Verdict → Objects → List ℕ → Type 0
IsVerdictMark op (Granted issue) old key = IsServiceMark op issue old key
IsVerdictMark op verdict old key = ⊥

-- ---- of a request

pub data IsRequestMark (w : World) (caller : Caller) (request : Request) (key : List ℕ) : Type 0 where
  of_register : IsNodeMark request (decided w.register caller request).0 key
      → IsRequestMark w caller request key
  of_objects : IsVerdictMark request.op (decided w.register caller request).0 w.objects key
      → IsRequestMark w caller request key

-- ---- of a call, which may find no memory

-- only the turns before the one that found none marked anything
pub record MarksFront (g : Grant) (op : Op) (turns : List Turn) (old new : List Lane) : Type 0 where
  pub stop : StopsIn g op turns (whole old) (whole new)
  pub alone : AddsLaneMarks (IsTurnMark g op stop.front (whole old)) old new

abbrev pub MarksTurns : {E : Type 0} → Grant → Op → List Turn → List Lane → Result Reply E → List Lane → Type 0
MarksTurns g op turns old (Ok reply) new = AddsLaneMarks (IsTurnMark g op turns (whole old)) old new
MarksTurns g op turns old (Err e) new = MarksFront g op turns old new

abbrev pub MarksService : {E : Type 0} → Op → Issue → List Lane → Result Reply E → List Lane → Type 0
MarksService op issue old (Ok reply) new = AddsLaneMarks (IsServiceMark op issue (whole old)) old new
MarksService op issue old (Err e) new = MarksFront issue.grant op issue.left old new

abbrev pub MarksVerdict : Op → Verdict → List Lane → What → List Lane → Type 0
MarksVerdict op (Granted issue) old NoMemory new = MarksFront issue.grant op issue.left old new
MarksVerdict op verdict old what new = AddsLaneMarks (IsVerdictMark op verdict (whole old)) old new

-- what the register marked, and the turns before the one that found none
abbrev pub StopsMarking : Request → Verdict → State → State → Type 0
StopsMarking request (Granted issue) old new = (stop : StopsIn issue.grant request.op issue.left (whole old.lanes) (whole new.lanes))
    × AddsWorldMarks (λ key. IsNodeMark request (Granted issue) key ⊎ IsTurnMark issue.grant request.op stop.front (whole old.lanes) key) old new
StopsMarking request verdict old new = ⊥

-- nothing where memory ran out before the request was decided
abbrev pub AddsRequestMarks : State → Caller → Request → What → State → Type 0
AddsRequestMarks old caller request NoMemory new =
    AddsWorldMarks (λ key. ⊥) old new ⊎ StopsMarking request (decided old.register caller request).0 old new
AddsRequestMarks old caller request what new = AddsWorldMarks (IsRequestMark (seen old) caller request) old new
