-- The keepings that a pass has seen, and what was kept for a request.
use Rattle.std.proofs.Common.{◌≡◌, ⊎_elim, ℕ, List, Option, Some, None, Result, Ok, Err, refl, sym, ap, ◌∙◌, subst}
use Rattle.std.specs.Prelude.{IfErr}
use Rattle.std.specs.declared.snapshot.Snapshot.{Snapshot}
use Rattle.access_lists.specs.declared.people.Caller.{Caller}
use Rattle.edge_traits.specs.declared.disk.Disk.{Ghosts as Disks}
use Rattle.flush_journal.specs.declared.journal.Journal.{Journal}
use Rattle.flush_journal.specs.declared.why.Why.{Why}
use Rattle.flush_journal.specs.declared.why.Why.TheVariants.{DiskFault, NotAJournal, JournalFull, Exists, NoMemory}
use Rattle.journal_desk.specs.Keepings.{keeping_of, owed_by}
use Rattle.lane_histories.specs.Histories.{StartsWith}
use Rattle.lane_histories.specs.declared.items.Keeping.{Keeping}
use Rattle.lane_histories.specs.declared.items.Reach.{Reach}
use Rattle.object_ops.specs.declared.ops.Request.{Request}
use Rattle.service_core.specs.declared.answers.Answer.{Answer}
use Rattle.hall.specs.Answers.{ArrayStart, ArrayView, HasAnswered}
use Rattle.hall.specs.DeskTurns.{HasKeptTo}
use Rattle.hall.specs.KeptAnswers.{HasKeptFor, without_number}
use Rattle.hall.specs.declared.journal.DeskWork.{DeskWork}
use Rattle.hall.specs.declared.journal.DeskWork.TheVariants.{Flush, FlushPast, KeepRegister, Look}
use Rattle.rest_session.specs.Halls.Asking.{MayHaveRefused}
use Rattle.rest_session.proofs.OfHalls.Shares.{starts_on}

-- those that were seen before are the first of those that are seen now
pub keepings_asked : {K : Type 0} (start : ArrayStart K) (v w : ArrayView K) (caller : Caller) (request : Request) (answer : Answer) → HasAnswered start caller request answer v w
    → StartsWith w.seen.keepings v.seen.keepings
keepings_asked start v w caller request answer a =
    let q = a.asked in
    subst (λ (l : List Keeping). StartsWith l v.seen.keepings) (sym (ap (λ u. u.seen.keepings) q.is)) q.longer.keepings

module _ {D : Type 0} (met : Disks D) (start : ArrayStart (Snapshot (Journal D met))) (v w : ArrayView (Snapshot (Journal D met))) where
  -- nothing was to be kept
  pub kept_free : (work : Option DeskWork) (kept : Result (Unit {0}) Why) → HasKeptFor met work start kept v w → work ≡ None → kept ≡ Ok tt
  kept_free None kept h none = h.0
  kept_free (Some work) kept h none = absurd (let some : Some work ≡ None = none in cc)

  module _ (before : List Keeping) (begins : StartsWith v.seen.keepings before) where
    refused_turn : (reached : Reach → ℕ) (result : Result ℕ Why) → HasKeptTo met reached start result v w
        → IfErr (without_number result) (MayHaveRefused before w.seen.keepings)
    refused_turn reached (Ok n) h = tt
    refused_turn reached (Err DiskFault) h = record {
      others = h.turn.before.keepings;
      last = keeping_of met {T = ℕ} h.before h.after (Err DiskFault);
      now_is = ap (λ u. u.seen.keepings) h.turn.is ∙ h.turn.keepings;
      later = starts_on h.turn.before.keepings v.seen.keepings before h.turn.begins.keepings begins;
      refused = refl;
      counted = h.counted;
      rose = h.cause;
    }
    refused_turn reached (Err (JournalFull end need room)) h = (
      h.cause.5,
      record {
        others = h.turn.before.keepings;
        last = keeping_of met {T = ℕ} h.before h.after (Err (JournalFull end need room));
        now_is = ap (λ u. u.seen.keepings) h.turn.is ∙ h.turn.keepings;
        later = starts_on h.turn.before.keepings v.seen.keepings before h.turn.begins.keepings begins;
        refused = refl;
        end_is = h.cause.2;
        owed = h.cause.3 ∙ sym (ap owed_by h.cause.1);
      },
    )
    refused_turn reached (Err NoMemory) h = record {
      others = h.turn.before.keepings;
      last = keeping_of met {T = ℕ} h.before h.after (Err NoMemory);
      now_is = ap (λ u. u.seen.keepings) h.turn.is ∙ h.turn.keepings;
      later = starts_on h.turn.before.keepings v.seen.keepings before h.turn.begins.keepings begins;
      refused = refl;
      owed = ap owed_by h.cause;
    }
    refused_turn reached (Err (NotAJournal at)) h = h.cause
    refused_turn reached (Err Exists) h = h.cause

    -- why it wasn't kept
    pub kept_cause : (work : Option DeskWork) (kept : Result (Unit {0}) Why) → HasKeptFor met work start kept v w
        → IfErr kept (MayHaveRefused before w.seen.keepings)
    kept_cause None kept h = subst (λ (r : Result (Unit {0}) Why). IfErr r (MayHaveRefused before w.seen.keepings)) (sym h.0) tt
    kept_cause (Some Flush) kept (result, same, turn) =
        subst (λ (r : Result (Unit {0}) Why). IfErr r (MayHaveRefused before w.seen.keepings)) (sym same) (refused_turn (λ r. r.c) result turn)
    kept_cause (Some (FlushPast place)) kept (result, same, turn) =
        subst (λ (r : Result (Unit {0}) Why). IfErr r (MayHaveRefused before w.seen.keepings)) (sym same) (⊎_elim
        (λ shared. subst (λ (r : Result ℕ Why). IfErr (without_number r) (MayHaveRefused before w.seen.keepings)) (sym shared.is) tt)
        (λ flushed. refused_turn (λ r. r.c) result flushed.0)
        turn)
    kept_cause (Some KeepRegister) kept (result, same, turn) =
        subst (λ (r : Result (Unit {0}) Why). IfErr r (MayHaveRefused before w.seen.keepings)) (sym same) (refused_turn (λ r. r.p) result turn.0)
    kept_cause (Some Look) kept (result, same, (n, ok, looked)) =
        subst (λ (r : Result (Unit {0}) Why). IfErr r (MayHaveRefused before w.seen.keepings)) (sym (same ∙ ap without_number ok)) tt
