-- What was answered stays true.
use Rattle.std.proofs.Common.{◌≡◌, ◌⊎◌, ⊎_elim, ℕ, ◌≤◌, List, inl, sym, subst, arith}
use Rattle.std.specs.List.{AllByRecursion}
use Rattle.edge_traits.specs.declared.disk.Disk.{Ghosts}
use Rattle.flush_journal.specs.Moments.{CrashLeaves}
use Rattle.lane_histories.specs.Services.{World}
use Rattle.lane_histories.specs.Histories.{History, IsIn}
use Rattle.lane_histories.specs.declared.items.Answer.TheVariants.{Kept}
use Rattle.lane_histories.specs.declared.items.Keeping.{Keeping}
use Rattle.lane_histories.specs.declared.items.Reach.{Reach}
use Rattle.lane_histories.specs.Legal.{IsLegal, IsPrefix}
use Rattle.lane_histories.specs.KeptContents.{IsAsFar}
use Rattle.lane_histories.proofs.Lists.{all_at}
use Rattle.journal_desk.specs.KeptServices.{KeptService}
use Rattle.journal_desk.specs.Desks.{AreAnswered, HoldsAsFar, HoldSince}
use Rattle.journal_desk.specs.Notes.{NoteOf}
use Rattle.journal_desk.proofs.ImageLemmas.{as_far, lasts_by, longer_image, prefix_itself}

module _ (k : KeptService) (start : World k.service) {D : Type 0} (met : Ghosts D) (h : History k.service) where
  module _ (legal : IsLegal k.service start h) (old new at : D) (kept : Reach) (keepings : AllByRecursion (λ i. IsAsFar i.own kept) h.keepings)
      (leaves : met.honest → CrashLeaves met old new (HoldsAsFar k start h kept))
      (was : AreAnswered met k start h old at kept) where
    still_since : met.honest → (moment : ℕ) (own : Reach) → IsAsFar own kept → (moment ≤ met.moment old) × HoldSince met k start h old moment own
        → (moment ≤ met.moment new) × HoldSince met k start h new moment own
    still_since honest moment own far since =
        let later = (leaves honest).later in
        let le = since.0 in
        (omega arith, lasts_by k start met h h legal (prefix_itself h) old new kept (leaves honest) moment own le far since.1)

    still_each : met.honest → (i : Keeping) → IsIn h.keepings i → i.answer ≡ Kept
        → (i.moment ≤ met.moment new) × HoldSince met k start h new i.moment i.own
    still_each honest i here is = still_since honest i.moment i.own (all_at _ h.keepings i keepings here) (was.each honest i here is)

    -- a call of the journal, after which no more is kept
    pub answered_call : AreAnswered met k start h new at kept
    answered_call = record { own = λ honest. still_since honest (met.moment at) kept (as_far kept) (was.own honest); each = still_each }

    -- or as much as this, from now on
    pub answered_ok : (own : Reach) → (met.honest → HoldSince met k start h new (met.moment new) own) → AreAnswered met k start h new new own
    answered_ok own now = record { own = λ honest. (omega arith, now honest); each = still_each }

  -- the note grew
  pub answered_grown : (g : History k.service) → IsLegal k.service start g → IsPrefix h g → (disk at : D) (kept : Reach)
      → ((i : Keeping) → IsIn g.keepings i → i.answer ≡ Kept → IsIn h.keepings i ⊎ ((i.own ≡ kept) × (i.moment ≡ met.moment at)))
      → AreAnswered met k start h disk at kept → AreAnswered met k start g disk at kept
  answered_grown g legal prefix disk at kept known was = record {
    own = λ honest. longer (met.moment at) kept (was.own honest);
    each = λ honest i here is. ⊎_elim
        (λ old. longer i.moment i.own (was.each honest i old is))
        (λ last. subst (λ (p : ℕ × Reach). (p.0 ≤ met.moment disk) × HoldSince met k start g disk p.0 p.1) (λ z. (sym last.1 z, sym last.0 z))
        (longer (met.moment at) kept (was.own honest)))
        (known i here is);
  }
    where
      longer : (moment : ℕ) (own : Reach) → (moment ≤ met.moment disk) × HoldSince met k start h disk moment own
          → (moment ≤ met.moment disk) × HoldSince met k start g disk moment own
      longer moment own since = (since.0, λ image left. longer_image k start h g own image legal prefix (since.1 image left))

module _ {D N : Type 0} (met : Ghosts D) (notes : NoteOf N) (disk at : D) (kept : Reach) (before after : N) (start : notes.start after ≡ notes.start before)
    (legal : IsLegal notes.kept.service (notes.start before) (notes.history after)) (prefix : IsPrefix (notes.history before) (notes.history after))
    (was : AreAnswered met notes.kept (notes.start before) (notes.history before) disk at kept) where
  pub answered_note : ((i : Keeping) → IsIn (notes.history after).keepings i → i.answer ≡ Kept
      → IsIn (notes.history before).keepings i ⊎ ((i.own ≡ kept) × (i.moment ≡ met.moment at)))
      → AreAnswered met notes.kept (notes.start after) (notes.history after) disk at kept
  answered_note known = subst (λ (w : World notes.kept.service). AreAnswered met notes.kept w (notes.history after) disk at kept) (sym start)
      (answered_grown notes.kept (notes.start before) met (notes.history before) (notes.history after) legal prefix disk at kept known was)

  -- in the desk's own turn
  pub answered_step : (notes.history after).keepings ≡ (notes.history before).keepings → AreAnswered met notes.kept (notes.start after) (notes.history after) disk at kept
  answered_step same = answered_note (λ i here is. inl (subst (λ (ks : List Keeping). IsIn ks i) same here))
