-- What a keeping leaves to be written.
use Rattle.std.proofs.Common.{◌≡◌, ◌≢◌, List, [], ◌∷◌, Option, Some, None, Result, Ok, Err, refl, sym, ap, subst, ◌∙◌}
use Rattle.edge_traits.specs.declared.disk.Disk.{Ghosts}
use Rattle.flush_journal.specs.Records.{Record}
use Rattle.flush_journal.specs.Standing.{numbers_of, pending_of}
use Rattle.flush_journal.specs.Tries.{Tries, one_more}
use Rattle.flush_journal.specs.declared.report.Report.{Report}
use Rattle.flush_journal.specs.declared.journal.Journal.{Journal}
use Rattle.flush_journal.specs.declared.why.Why.{Why}
use Rattle.flush_journal.specs.Cuts.Cuts.{AppendsOnce}
use Rattle.flush_journal.proofs.OfKeepings.Backing.{none_some, ok_not_err, on_err, on_ok}
use Rattle.flush_journal.specs.Keepings.Keepings.{Builds, unsettled, uncut, waits, with_waiting, with_written, written}

-- what waited was written, and the rest was built after it
pub built_after : (P : Record → Type 0) (from mid : Report) (waiting : Option (List Record)) (building : List Record) (to : Report) (left : Option (List Record)) (built : List Record)
    → mid ≡ with_waiting from waiting → Builds P mid None building to left built → Builds P from waiting building to left built
built_after P from mid waiting building to left built is (unsettled rs waited left_it same stays) = none_some None rs (Builds P from waiting building to left built) refl waited
built_after P from mid waiting building to left built is (uncut none cut grows) = uncut none cut (grows ∙ is)
built_after P from mid waiting building to left built is (waits rs left_it cut none grows) = waits rs left_it cut none (grows ∙ is)
built_after P from mid waiting building to left built is (written rs none cut all grows) = written rs none cut all (grows ∙ ap (λ (n : Report). with_written n rs) is)

module _ {D : Type 0} {met : Ghosts D} (old new : Journal D met) (r : Result (Unit {0}) Why) where
  -- what waited was written
  pub settled_counts : r ≡ Ok tt → ((rs : List Record) → pending_of old ≡ Some rs → Tries old new rs r) → (pending_of old ≡ None → new ≡ old)
      → numbers_of new ≡ with_waiting (numbers_of old) (pending_of old)
  settled_counts is tries untouched = by (pending_of old) refl where
    by : (p : Option (List Record)) → pending_of old ≡ p → numbers_of new ≡ with_waiting (numbers_of old) p
    by None idle = ap numbers_of (untouched idle)
    by (Some rs) waited = on_ok r (numbers_of new ≡ one_more (numbers_of old) rs) tt is (tries rs waited).counted

module _ {D : Type 0} {met : Ghosts D} (P : Record → Type 0) (old new : Journal D met) (building : List Record) (r : Result (Unit {0}) Why) where
  -- what waited was refused again
  pub still_unsettled : (e : Why) → r ≡ Err e → ((rs : List Record) → pending_of old ≡ Some rs → Tries old new rs r) → (pending_of old ≡ None → r ≡ Ok tt)
      → Builds P (numbers_of old) (pending_of old) building (numbers_of new) (pending_of new) building
  still_unsettled e is tries none = by (pending_of old) refl where
    by : (p : Option (List Record)) → pending_of old ≡ p → Builds P (numbers_of old) (pending_of old) building (numbers_of new) (pending_of new) building
    by None idle = ok_not_err r tt e (Builds P (numbers_of old) (pending_of old) building (numbers_of new) (pending_of new) building) (none idle) is
    by (Some rs) waited = let t = tries rs waited in
        unsettled rs waited (on_err r (pending_of new ≡ Some rs) e is t.pending) refl (on_err r (numbers_of new ≡ numbers_of old) e is t.numbers)

  -- the batch was tried
  pub tried : (batch : List Record) → AppendsOnce P building batch → pending_of old ≡ None → (batch ≢ [] → Tries old new batch r) → (batch ≡ [] → new ≡ old)
      → Builds P (numbers_of old) None building (numbers_of new) (pending_of new) []
  tried batch cut idle tries untouched = by batch refl where
    by : (rs : List Record) → batch ≡ rs → Builds P (numbers_of old) None building (numbers_of new) (pending_of new) []
    by [] none = written [] (ap pending_of (untouched none) ∙ idle) (subst (AppendsOnce P building) none cut) refl (ap numbers_of (untouched none))
    by (b ∷ rs) some = outcome r refl (tries (λ same. absurd (let both : ◌≡◌ {A = List Record} (b ∷ rs) [] = sym some ∙ same in cc))) where
      outcome : (q : Result (Unit {0}) Why) → r ≡ q → Tries old new batch q → Builds P (numbers_of old) None building (numbers_of new) (pending_of new) []
      outcome (Ok done) is t = written (b ∷ rs) t.done (subst (AppendsOnce P building) some cut) refl (t.counted ∙ ap (one_more (numbers_of old)) some)
      outcome (Err e) is t = waits batch t.pending cut refl t.numbers
