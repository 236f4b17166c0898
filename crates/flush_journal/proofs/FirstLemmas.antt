-- A journal that is made with a first batch.
use Rattle.std.proofs.Common.{◌≡◌, ◌≢◌, ℕ, ◌+◌, ◌≤◌, List, [], ◌∷◌, refl, sym, ◌∙◌, ap, subst, arith}
use Rattle.edge_traits.specs.Causes.{Rose}
use Rattle.edge_traits.specs.declared.disk.Disk.{Ghosts}
use Rattle.flush_journal.specs.Records.{Record}
use Rattle.flush_journal.specs.Files.{Content}
use Rattle.flush_journal.specs.Refusals.{MayRefuse}
use Rattle.flush_journal.specs.Standing.{numbers_of, with_batch, Numbers}
use Rattle.flush_journal.specs.Tries.{one_more}
use Rattle.flush_journal.specs.declared.journal.Journal.{Journal}
use Rattle.flush_journal.specs.declared.report.Report.{Report}
use Rattle.flush_journal.specs.declared.why.Why.{Why}
use Rattle.flush_journal.specs.declared.why.Why.TheVariants.{DiskFault, NotAJournal, JournalFull, Exists, NoMemory}
use Rattle.flush_journal.proofs.JournalLemmas.{with_batch-version, with_batch-lanes, with_batch-batches, with_batch-end}

-- where there is room a write is refused by a fault alone
pub fault_alone : (end need room before now : ℕ) (why : Why) → MayRefuse end need room before now why → end + need ≤ room → (why ≡ DiskFault) × Rose before now
fault_alone end need room before now DiskFault rose fits = (refl, rose)
fault_alone end need room before now (JournalFull e n r) full fits = absurd (omega (arith, full.3, fits))
fault_alone end need room before now (NotAJournal at) never fits = absurd never
fault_alone end need room before now Exists never fits = absurd never
fault_alone end need room before now NoMemory never fits = absurd never

-- the numbers count the batch, where it has records
pub counted : {D : Type 0} {met : Ghosts D} (old new : Journal D met) (c : Content) (rs : List Record) → Numbers old c
    → (rs ≢ [] → numbers_of new ≡ one_more (numbers_of old) rs) → (rs ≡ [] → new ≡ old) → Numbers new (with_batch c rs)
counted {D} {met} old new c [] numbers more none = subst (λ (j : Journal D met). Numbers j c) (sym (none refl)) numbers
counted old new c (r ∷ rs) numbers more none =
    let some : (r ∷ rs) ≢ [] = λ e. absurd (cc) in
    let now = more some in
    record {
      version = ap (λ (n : Report). n.version) now ∙ numbers.version ∙ sym (with_batch-version c (r ∷ rs));
      lanes = ap (λ (n : Report). n.lanes) now ∙ numbers.lanes ∙ sym (with_batch-lanes c (r ∷ rs));
      batches = omega (arith, ap (λ (n : Report). n.batches) now, numbers.batches, with_batch-batches c (r ∷ rs) some);
      end = omega (arith, ap (λ (n : Report). n.end) now, numbers.end, with_batch-end c (r ∷ rs) some);
    }
