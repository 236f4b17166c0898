-- Why a turn of a desk was refused.
use Rattle.std.proofs.Common.{◌≡◌, inl, inr, ⊎_elim, ℕ, false, List, Option, None, Some, Result, Ok, Err, IfErr, true≢false, refl, ap, sym, ◌∙◌, subst, arith}
use Rattle.std.specs.Prelude.{IsErr}
use Rattle.std.specs.Result.{is_err}
use Rattle.edge_traits.specs.declared.disk.Disk.{Ghosts}
use Rattle.flush_journal.specs.Frames.{need_of}
use Rattle.flush_journal.specs.Records.{Record}
use Rattle.flush_journal.specs.Standing.{disk_of, end_of, pending_of}
use Rattle.flush_journal.specs.Tries.{Tries}
use Rattle.flush_journal.specs.Unchanged.{SameDisk}
use Rattle.flush_journal.specs.declared.journal.Journal.{Journal}
use Rattle.flush_journal.specs.declared.why.Why.{Why}
use Rattle.flush_journal.specs.declared.why.Why.TheVariants.{DiskFault, NotAJournal, JournalFull, Exists, NoMemory}
use Rattle.lane_histories.specs.declared.items.Reach.{Reach}
use Rattle.journal_desk.specs.Standing.{Standing, standing_of}
use Rattle.lane_histories.specs.KeptContents.{IsAsFar}
use Rattle.journal_desk.specs.Keepings.{IsFullWhere, MayRefuseTurn, SettlesFirst, StaysOwed}
use Rattle.journal_desk.proofs.ImageLemmas.{farther}

err_same : (e f : Why) → ◌≡◌ {A = Result (Unit {0}) Why} (Err e) (Err f) → e ≡ f
err_same e f is = cc

none_some : (x : List Record) → ◌≡◌ {A = Option (List Record)} None (Some x) → ⊥
none_some x is = cc

some_same : (x y : List Record) → ◌≡◌ {A = Option (List Record)} (Some x) (Some y) → x ≡ y
some_same x y is = cc

module _ {D N : Type 0} (met : Ghosts D) (lanes : ℕ) (old new : Journal D met) (rs : List Record)
    (same : SameDisk met (disk_of old) (disk_of new)) (building built : List Record) (cut kept : Reach) (at : D) (since note : N) where
  may_refuse : (e : Why) → Tries old new rs (Err e)
      → MayRefuseTurn met (standing_of lanes old building cut kept at since note) (standing_of lanes new built cut kept at since note) e
  may_refuse DiskFault tr = tr.cause
  may_refuse (JournalFull end need room) tr = (
    rs,
    tr.pending,
    tr.cause.0 ∙ sym (ap (λ n. n.end) tr.numbers),
    tr.cause.1,
    tr.cause.2 ∙ sym same.most,
    omega (arith, tr.cause.0, tr.cause.1, tr.cause.2, tr.cause.3),
  )
  may_refuse NoMemory tr = absurd tr.cause
  may_refuse (NotAJournal at) tr = absurd tr.cause
  may_refuse Exists tr = absurd tr.cause

  pub refused : (v : Standing D N) (e : Why) (r : Result (Unit {0}) Why) → standing_of lanes old building cut kept at since note ≡ v → r ≡ Err e
      → Tries old new rs (Err e) → IfErr r (MayRefuseTurn met v (standing_of lanes new built cut kept at since note))
  refused v e r is why tr = subst (λ (x : Result (Unit {0}) Why). IfErr x (MayRefuseTurn met v (standing_of lanes new built cut kept at since note)))
      (sym why)
      (subst (λ (x : Standing D N). MayRefuseTurn met x (standing_of lanes new built cut kept at since note) e) is (may_refuse e tr))

  pub refused_full : (e : Why) (r : Result (Unit {0}) Why) → r ≡ Err e → Tries old new rs (Err e)
      → IsFullWhere met (standing_of lanes new built cut kept at since note) r
  refused_full e r why tr qs pending full =
      let end : end_of new ≡ end_of old = ap (λ n. n.end) tr.numbers in
      let same_rs : rs ≡ qs = some_same rs qs (sym tr.pending ∙ pending) in
      let need : need_of rs ≡ need_of qs = ap need_of same_rs in
      let most : met.most (disk_of new) ≡ met.most (disk_of old) = same.most in
      let is = err_same e (JournalFull (end_of old) (need_of rs) (met.most (disk_of old))) (tr.refused (omega arith)) in
      why ∙ ap Err is ∙ (λ i. Err (JournalFull (sym end i) (need i) (sym most i)))

  -- what was pending stays so
  stays_owed : (e : Why) → pending_of old ≡ Some rs → Tries old new rs (Err e)
      → StaysOwed (standing_of lanes old building cut kept at since note) (standing_of lanes new built cut kept at since note)
  stays_owed e there tr = record { pending = tr.pending ∙ sym there; end = ap (λ n. n.end) tr.numbers; cut = refl; kept = refl }

  pub first_refused : (v : Standing D N) (e : Why) (r : Result (Unit {0}) Why) → standing_of lanes old building cut kept at since note ≡ v → r ≡ Err e
      → pending_of old ≡ Some rs → Tries old new rs (Err e) → SettlesFirst met v (standing_of lanes new built cut kept at since note) r
  first_refused v e r is why there tr =
      let err : IsErr r = subst (λ (x : Result (Unit {0}) Why). IsErr x) (sym why) refl in
      let stays : IsErr r × StaysOwed v (standing_of lanes new built cut kept at since note) = (err, subst (λ (x : Standing D N). StaysOwed x (standing_of lanes new built cut kept at since note)) is (stays_owed e there tr)) in
      record { settled = λ qs pending. inl stays; full = λ qs pending no_room. stays }

  -- or what it reaches is kept
  pub first_done : (v : Standing D N) (later : D) (then : N) (r : Result (Unit {0}) Why) → standing_of lanes old building cut kept at since note ≡ v → r ≡ Ok tt
      → pending_of old ≡ Some rs → Tries old new rs r → SettlesFirst met v (standing_of lanes new built cut cut later then note) r
  first_done v later then r is well there tr =
      subst (λ (x : Standing D N). SettlesFirst met x (standing_of lanes new built cut cut later then note) r) is (record {
        settled = λ qs pending. inr (record { c = omega arith; p = omega arith });
        full = λ qs pending no_room.
            let need : need_of rs ≡ need_of qs = ap need_of (some_same rs qs (sym there ∙ pending)) in
            let refused = tr.refused (omega (arith, need, no_room)) in
            let never : ◌≡◌ {A = Result (Unit {0}) Why} (Ok tt) (Err (JournalFull (end_of old) (need_of rs) (met.most (disk_of old)))) = sym well ∙ refused in
            absurd (cc);
      })

module _ {D N : Type 0} (met : Ghosts D) (old new : Standing D N) where
  -- the turn is refused with it
  pub first_handed : {T U : Type 0} (r : Result T Why) (q : Result U Why) → IsErr q → SettlesFirst met old new r → SettlesFirst met old new q
  first_handed r q err first = record {
    settled = λ rs there. ⊎_elim (λ stays. inl (err, stays.1)) (λ kept. inr kept) (first.settled rs there);
    full = λ rs there no_room. (err, (first.full rs there no_room).1);
  }

  -- it was written, and the turn went on
  pub first_on : {T U : Type 0} (mid : Standing D N) (r : Result T Why) (q : Result U Why) → is_err r ≡ false → IsAsFar mid.kept new.kept → SettlesFirst met old mid r
      → SettlesFirst met old new q
  first_on mid r q well far first = record {
    settled = λ rs there. ⊎_elim
        (λ stays. absurd (true≢false (sym stays.0 ∙ well)))
        (λ kept. inr (farther old.cut mid.kept new.kept kept far))
        (first.settled rs there);
    full = λ rs there no_room. absurd (true≢false (sym (first.full rs there no_room).0 ∙ well));
  }

-- where nothing was pending
pub first_none : {D N T : Type 0} (met : Ghosts D) (old new : Standing D N) (r : Result T Why) → old.pending ≡ None → SettlesFirst met old new r
first_none met old new r none = record {
  settled = λ rs there. absurd (none_some rs (sym none ∙ there));
  full = λ rs there no_room. absurd (none_some rs (sym none ∙ there));
}
