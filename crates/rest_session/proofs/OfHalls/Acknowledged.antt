-- What bytes acknowledge over a hall.
use Rattle.std.proofs.Common.{◌≡◌, ◌≢◌, inl, inr, ℕ, List, Bool, true, false, Some, Result, Ok, Err, refl, sym, ap, ◌∙◌}
use Rattle.serde_json.specs.Data.{Data}
use Rattle.flush_journal.specs.declared.why.Why.{Why}
use Rattle.object_ops.specs.Needs.{decided_at}
use Rattle.object_ops.specs.declared.ops.Op.{Op}
use Rattle.object_ops.specs.declared.ops.Op.TheVariants as op
use Rattle.object_ops.specs.declared.refusals.Refusal.TheVariants.{Forbidden}
use Rattle.object_ops.specs.declared.replies.Reply.TheVariants as outcome
use Rattle.service_core.specs.declared.answers.What.{What}
use Rattle.service_core.specs.declared.answers.What.TheVariants.{Replied, Denied, NoMemory}
use Rattle.hall.specs.KeptAnswers.{work_for, work_of}
use Rattle.hall.specs.declared.journal.DeskWork.TheVariants.{KeepRegister}
use Rattle.rest_session.specs.Responses.{IsKeptAnswer, IsResponse, said}
use Rattle.rest_session.specs.Sessions.{is_to_keep}
use Rattle.rest_session.specs.Halls.Acknowledged.{AcknowledgedIsKept}
use Rattle.rest_session.proofs.DoneBytes.{IsRefusedByte, apart, byte_507, done_byte, first_digit, none_byte, not_refused, refused_byte, unkept_byte}

-- the register is kept for whatever is to be kept but a flush
register_work : (asked : Op) (place : ℕ) → is_to_keep asked ≡ true → asked ≢ op.Flush → work_of asked place ≡ Some KeepRegister
register_work op.Flush place keep other = absurd (other refl)
register_work (op.PutNode folder) place keep other = refl
register_work op.DropNode place keep other = refl
register_work (op.PutAcl name rights) place keep other = refl
register_work op.GetNode place keep other = absurd (let no : false ≡ true = keep in cc)
register_work op.ListNodes place keep other = absurd (let no : false ≡ true = keep in cc)
register_work op.GetAcls place keep other = absurd (let no : false ≡ true = keep in cc)
register_work (op.GetAcl name) place keep other = absurd (let no : false ≡ true = keep in cc)
register_work (op.MakeObject make link) place keep other = absurd (let no : false ≡ true = keep in cc)
register_work (op.GetObject id) place keep other = absurd (let no : false ≡ true = keep in cc)
register_work (op.DropObject id) place keep other = absurd (let no : false ≡ true = keep in cc)
register_work (op.ListLinks id) place keep other = absurd (let no : false ≡ true = keep in cc)
register_work (op.GetLink id title) place keep other = absurd (let no : false ≡ true = keep in cc)
register_work (op.PutLink id title link) place keep other = absurd (let no : false ≡ true = keep in cc)
register_work (op.DropLink id title) place keep other = absurd (let no : false ≡ true = keep in cc)
register_work (op.ListAttributes id) place keep other = absurd (let no : false ≡ true = keep in cc)
register_work (op.GetAttribute id name) place keep other = absurd (let no : false ≡ true = keep in cc)
register_work (op.PutAttribute id name attribute) place keep other = absurd (let no : false ≡ true = keep in cc)
register_work (op.DropAttribute id name) place keep other = absurd (let no : false ≡ true = keep in cc)
register_work (op.GetShape id) place keep other = absurd (let no : false ≡ true = keep in cc)
register_work (op.PutShape id dims) place keep other = absurd (let no : false ≡ true = keep in cc)
register_work (op.GetElem id) place keep other = absurd (let no : false ≡ true = keep in cc)
register_work (op.GetValue id select) place keep other = absurd (let no : false ≡ true = keep in cc)
register_work (op.PutValue id part value) place keep other = absurd (let no : false ≡ true = keep in cc)
register_work (op.GetPoints id points) place keep other = absurd (let no : false ≡ true = keep in cc)

-- the bytes say no refusal
undone : (path : List ℕ) (what : What) (close : Bool) (bytes : List ℕ) → IsRefusedByte (first_digit (said path what close)) → IsResponse path what close bytes
    → first_digit bytes ≡ 50 → ⊥
undone path what close bytes refused (inl (is, json)) done = not_refused (first_digit (said path what close)) (sym (ap first_digit is) ∙ done) refused
undone path what close bytes refused (inr none) done = apart bytes done (ap first_digit none ∙ none_byte close)

-- it was done, and what was to be kept is
record WasDone (what : What) (kept : Result (Unit {0}) Why) : Type 0 where
  status : ℕ
  body : Data
  done : what ≡ Replied (outcome.Done status body)
  kept_is : kept ≡ Ok tt

was_done : (path : List ℕ) (what : What) (close : Bool) (kept : Result (Unit {0}) Why) (bytes : List ℕ) → IsKeptAnswer path what close kept bytes
    → first_digit bytes ≡ 50 → WasDone what kept
was_done path (Replied (outcome.Done status body)) close (Ok tt) bytes response done = record { status = status; body = body; done = refl; kept_is = refl }
was_done path (Replied (outcome.Refused refusal)) close (Ok tt) bytes response done =
    absurd (undone path (Replied (outcome.Refused refusal)) close bytes (refused_byte refusal _ _ close) response done)
was_done path (Denied right) close (Ok tt) bytes response done =
    absurd (undone path (Denied right) close bytes (refused_byte (Forbidden right) _ _ close) response done)
was_done path NoMemory close (Ok tt) bytes response done = absurd (undone path NoMemory close bytes (inr (byte_507 _ _ close)) response done)
was_done path what close (Err why) bytes unkept done = absurd (apart bytes done (unkept_byte why close bytes unkept))

pub acknowledged_is_kept : AcknowledgedIsKept
acknowledged_is_kept s caller request close bytes t asks status done has =
    let first = ap first_digit has.written ∙ done_byte status has.more has.body has.close done in
    let was = was_done (decided_at request) asks.what close asks.kept bytes asks.response first in
    let place = asks.entry.place in
    let work : work_for request.op place asks.what ≡ work_of request.op place = ap (work_for request.op place) was.done in record {
      flush = λ is. asks.flushed (work ∙ ap (λ o. work_of o place) is) was.kept_is;
      change = λ keep other. asks.changed (work ∙ register_work request.op place keep other) was.kept_is;
    }
