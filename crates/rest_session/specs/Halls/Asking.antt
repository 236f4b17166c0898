-- What a message is answered where a hall is asked, and what the pass knows then.
--     IsKeptPast reached keepings place        a keeping that was answered Ok reaches past a place
--     MayHaveRefused why before now            why the last keeping may have been refused
--     Asks s caller request close bytes t      one entry more, and its answer, once it is kept
--     IsAskedOf s message bytes t              a message, its answer's bytes, and what is left
use Rattle.std.specs.Prelude.{◌≡◌, ◌⊎◌, ℕ, ◌+◌, ◌<◌, ◌≤◌, List, [], ◌∷◌, ◌++◌, Bool, Some, None, Result, Ok, Err, IfErr}
use Rattle.std.specs.List.{AllByRecursion}
use Rattle.access_lists.specs.declared.people.Caller.{Caller}
use Rattle.edge_traits.specs.Causes.{Rose}
use Rattle.flush_journal.specs.declared.why.Why.{Why}
use Rattle.flush_journal.specs.declared.why.Why.TheVariants.{DiskFault, NotAJournal, JournalFull, Exists, NoMemory}
use Rattle.http_wire.specs.Messages.{RequestMessage, closes}
use Rattle.http_wire.specs.Replies.{no_memory_reply}
use Rattle.object_ops.specs.Needs.{decided_at}
use Rattle.object_ops.specs.declared.ops.Request.{Request}
use Rattle.object_ops.specs.declared.refusals.Refusal.{Refusal}
use Rattle.register.specs.declared.verdicts.Verdict.{Verdict}
use Rattle.rest_requests.specs.Requests.{allow_of, request_of}
use Rattle.service_core.specs.declared.answers.What.{What}
use Rattle.lane_histories.specs.Histories.{IsIn, StartsWith}
use Rattle.lane_histories.specs.declared.items.Answer.TheVariants.{Kept, Refused}
use Rattle.lane_histories.specs.declared.items.Entry.{Entry}
use Rattle.lane_histories.specs.declared.items.Keeping.{Keeping}
use Rattle.lane_histories.specs.declared.items.Reach.{Reach}
use Rattle.service_histories.specs.ArrayServices.{Asked}
use Rattle.hall.specs.Answers.{asked_by}
use Rattle.hall.specs.KeptAnswers.{work_for}
use Rattle.hall.specs.declared.journal.DeskWork.TheVariants.{FlushPast, KeepRegister}
use Rattle.rest_session.specs.Responses.{IsKeptAnswer, refused}
use Rattle.rest_session.specs.Sessions.{said_by}
use Rattle.rest_session.specs.Halls.Accounts.{Account}

-- ---- what is kept before it is acknowledged

abbrev pub IsKeptPast : (Reach → ℕ) → List Keeping → ℕ → Type 0
IsKeptPast reached keepings place = (k : Keeping) × IsIn keepings k × (k.answer ≡ Kept) × (place < reached k.own)

-- the last keeping that the pass has seen was refused for a fault, which the disk counted in it and in none before
pub record WasFaulty (before now : List Keeping) : Type 0 where
  pub others : List Keeping
  pub last : Keeping
  pub now_is : now ≡ others ++ last ∷ []
  pub later : StartsWith others before
  pub refused : last.answer ≡ Refused
  pub counted : AllByRecursion (λ k. k.faults_after ≤ last.faults_before) others
  pub rose : Rose last.faults_before last.faults_after

-- or for want of room, for a batch that is pending behind it
pub record WasFull (before now : List Keeping) (end need : ℕ) : Type 0 where
  pub others : List Keeping
  pub last : Keeping
  pub now_is : now ≡ others ++ last ∷ []
  pub later : StartsWith others before
  pub refused : last.answer ≡ Refused
  pub end_is : end ≡ last.end
  pub owed : need ≡ last.owed

-- or for want of memory, where no batch is pending behind it
pub record WasShort (before now : List Keeping) : Type 0 where
  pub others : List Keeping
  pub last : Keeping
  pub now_is : now ≡ others ++ last ∷ []
  pub later : StartsWith others before
  pub refused : last.answer ≡ Refused
  pub owed : last.owed ≡ 0

abbrev pub MayHaveRefused : List Keeping → List Keeping → Why → Type 0
MayHaveRefused before now DiskFault = WasFaulty before now
MayHaveRefused before now (JournalFull end need room) = (room < end + need) × WasFull before now end need
MayHaveRefused before now NoMemory = WasShort before now
MayHaveRefused before now (NotAJournal at) = ⊥
MayHaveRefused before now Exists = ⊥

-- ---- a request

-- The next entry of the pass is this request. It stands at or above every place before, and the bytes say what it was answered. A flush that
-- was done, and a change of folders, domains or lists, is acknowledged only once it is kept, by a keeping that the pass has seen; where that was
-- refused, the change stands, and the bytes say why.
pub record Asks (s : Account) (caller : Caller) (request : Request) (close : Bool) (bytes : List ℕ) (t : Account) : Type 0 where
  pub entry : Entry Asked Verdict
  pub what : What
  pub kept : Result (Unit {0}) Why
  pub asked : entry.asked ≡ asked_by caller request
  pub above : s.front ≤ entry.place
  pub told : t.told ≡ s.told ++ (entry, Some what) ∷ []
  pub front : t.front ≡ entry.place + 1
  pub longer : StartsWith t.keepings s.keepings
  pub free : work_for request.op entry.place what ≡ None → kept ≡ Ok tt
  pub flushed : work_for request.op entry.place what ≡ Some (FlushPast entry.place) → kept ≡ Ok tt → IsKeptPast (λ r. r.c) t.keepings entry.place
  pub changed : work_for request.op entry.place what ≡ Some KeepRegister → kept ≡ Ok tt → IsKeptPast (λ r. r.p) t.keepings entry.place
  pub cause : IfErr kept (MayHaveRefused s.keepings t.keepings)
  pub response : IsKeptAnswer (decided_at request) what close kept bytes

-- what is no request is refused, and all stays
abbrev pub IsAnsweredAt : Account → List ℕ → Result (Caller × Request) Refusal → Bool → List ℕ → Account → Type 0
IsAnsweredAt s target (Err refusal) close bytes t = (bytes ≡ refused [] refusal (allow_of target refusal) close) × (t ≡ s)
IsAnsweredAt s target (Ok read) close bytes t = Asks s read.0 read.1 close bytes t

-- the bytes answer a message; what it asks is the first refusal or the request that it spells; or no memory was found, and all stays
abbrev pub IsAskedOf : Account → RequestMessage → List ℕ → Account → Type 0
IsAskedOf s m bytes t =
    (t.tokens ≡ s.tokens)
    × (IsAnsweredAt s m.head.target (request_of s.tokens (said_by m)) (closes m) bytes t
    ⊎ ((bytes ≡ no_memory_reply (closes m)) × (t ≡ s)))
