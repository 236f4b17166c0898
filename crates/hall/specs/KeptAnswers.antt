-- A request that is kept before its answer acknowledges it.
--     work_of op place         what is asked of the desk before the operation is acknowledged
--     work_for op place what   so where the answer says that it was done
--     HasKeptFor met work ..   what is to be kept was, or was refused, in one turn of the desk
--     HasKeptBehind met ..     so behind the answer of a request
--     IsKeptPast ..            a keeping that was answered Ok reaches past a place
use Rattle.std.specs.Prelude.{◌≡◌, ℕ, ◌<◌, Option, Some, None, Result, Ok, Err}
use Rattle.std.specs.declared.snapshot.Snapshot.{Snapshot}
use Rattle.access_lists.specs.declared.people.Caller.{Caller}
use Rattle.edge_traits.specs.declared.disk.Disk.{Ghosts as Disks}
use Rattle.flush_journal.specs.declared.journal.Journal.{Journal}
use Rattle.flush_journal.specs.declared.why.Why.{Why}
use Rattle.object_ops.specs.declared.ops.Op.{Op}
use Rattle.object_ops.specs.declared.ops.Op.TheVariants as op
use Rattle.object_ops.specs.declared.ops.Request.{Request}
use Rattle.object_ops.specs.declared.replies.Reply.TheVariants as reply
use Rattle.service_core.specs.declared.answers.What.{What}
use Rattle.service_core.specs.declared.answers.What.TheVariants as what
use Rattle.lane_histories.specs.Histories.{IsIn}
use Rattle.lane_histories.specs.declared.items.Answer.TheVariants.{Kept}
use Rattle.lane_histories.specs.declared.items.Keeping.{Keeping}
use Rattle.lane_histories.specs.declared.items.Reach.{Reach}
use Rattle.hall.specs.Answers.{ArrayStart, ArrayView, HasAnswered}
use Rattle.hall.specs.DeskTurns.{IsTurnOf}
use Rattle.hall.specs.declared.journal.DeskWork.{DeskWork}
use Rattle.hall.specs.declared.journal.DeskWork.TheVariants.{FlushPast, KeepRegister}
use Rattle.hall.specs.declared.kept_answer.KeptAnswer.{KeptAnswer}

-- ---- what is kept first

abbrev pub work_of : Op → ℕ → Option DeskWork
work_of op.Flush place = Some (FlushPast place)
work_of (op.PutNode folder) place = Some KeepRegister
work_of op.DropNode place = Some KeepRegister
work_of (op.PutAcl name rights) place = Some KeepRegister
work_of op.GetNode place = None
work_of op.ListNodes place = None
work_of op.GetAcls place = None
work_of (op.GetAcl name) place = None
work_of (op.MakeObject make link) place = None
work_of (op.GetObject id) place = None
work_of (op.DropObject id) place = None
work_of (op.ListLinks id) place = None
work_of (op.GetLink id title) place = None
work_of (op.PutLink id title link) place = None
work_of (op.DropLink id title) place = None
work_of (op.ListAttributes id) place = None
work_of (op.GetAttribute id name) place = None
work_of (op.PutAttribute id name attribute) place = None
work_of (op.DropAttribute id name) place = None
work_of (op.GetShape id) place = None
work_of (op.PutShape id dims) place = None
work_of (op.GetElem id) place = None
work_of (op.GetValue id select) place = None
work_of (op.PutValue id part value) place = None
work_of (op.GetPoints id points) place = None

abbrev pub work_for : Op → ℕ → What → Option DeskWork
work_for asked place (what.Replied (reply.Done status body)) = work_of asked place
work_for asked place (what.Replied (reply.Refused refusal)) = None
work_for asked place (what.Denied right) = None
work_for asked place what.NoMemory = None

-- ---- the turn of the desk

abbrev pub without_number : Result ℕ Why → Result (Unit {0}) Why
without_number (Ok n) = Ok tt
without_number (Err why) = Err why

abbrev pub HasKeptFor : {D : Type 0} (met : Disks D) → Option DeskWork → ArrayStart (Snapshot (Journal D met)) → Result (Unit {0}) Why
    → ArrayView (Snapshot (Journal D met)) → ArrayView (Snapshot (Journal D met)) → Type 0
HasKeptFor met None start kept v w = (kept ≡ Ok tt) × (w ≡ v)
HasKeptFor met (Some work) start kept v w = (result : Result ℕ Why) × (kept ≡ without_number result) × IsTurnOf met work start result v w

-- ---- behind an answer

-- what the pass knew when it had its answer, and what it knows now
pub record HasKeptBehind {D : Type 0} (met : Disks D) (start : ArrayStart (Snapshot (Journal D met))) (caller : Caller) (request : Request)
    (result : KeptAnswer) (v w : ArrayView (Snapshot (Journal D met))) : Type 0 where
  pub mid : ArrayView (Snapshot (Journal D met))
  pub answered : HasAnswered start caller request result.answer v mid
  pub kept : HasKeptFor met (work_for request.op result.answer.place result.answer.what) start result.kept mid w

-- among those that the pass has seen
abbrev pub IsKeptPast : {K : Type 0} → (Reach → ℕ) → ArrayView K → ℕ → Type 0
IsKeptPast reached v place = (k : Keeping) × IsIn v.seen.keepings k × (k.answer ≡ Kept) × (place < reached k.own)
