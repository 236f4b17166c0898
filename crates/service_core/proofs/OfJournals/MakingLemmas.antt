-- The images of a journal of the first records, and why none is made.
use Rattle.std.proofs.Common.{◌≡◌, ◌≢◌, ◌∙◌, List, [], ◌∷◌, ℕ, Result, Ok, Err, IfErr, IfOk, ap, refl}
use Rattle.edge_traits.specs.declared.disk.Disk.{Ghosts}
use Rattle.flush_journal.specs.Files.{content, fresh}
use Rattle.flush_journal.specs.Records.{Record}
use Rattle.flush_journal.specs.Refusals.{MayRefuseFirst}
use Rattle.flush_journal.specs.Standing.{IsSettled, Numbers, disk_of, numbers_of, with_batch}
use Rattle.flush_journal.specs.declared.journal.Journal.{Journal}
use Rattle.flush_journal.specs.declared.why.Why.{Why}
use Rattle.flush_journal.specs.declared.why.Why.TheVariants.{DiskFault, NotAJournal, JournalFull, Exists, NoMemory}
use Rattle.domains.specs.Contents.{Contents}
use Rattle.containers.proofs.Passing.{err_map}
use Rattle.service_core.specs.Journals.FirstJournals.{AreFirstRecords, IsFirstJournal, MayRefuseMaking}

module _ {D E : Type 0} {met : Ghosts D} (c : Contents) (lanes : ℕ) (rs : List Record) (first : AreFirstRecords c rs) where
  pub each_image : (r : Result (Journal D met) E) → IfOk r (λ j. IsSettled j (with_batch (fresh lanes) rs))
      → IfOk r (λ j. (image : List ℕ) → met.images (disk_of j) image → IsFirstJournal c lanes image)
  each_image (Ok j) settled = λ image left. record { records = rs; first = first; is_journal = ap content (settled.only image left) ∙ settled.file }
  each_image (Err e) settled = tt

-- a new journal with a batch of some records has one batch, and its lanes
one_batch : (lanes : ℕ) (rs : List Record) → rs ≢ [] → (with_batch (fresh lanes) rs).batches ≡ 1
one_batch lanes [] some = absurd (some refl)
one_batch lanes (r ∷ rs) some = refl

same_lanes : (lanes : ℕ) (rs : List Record) → (with_batch (fresh lanes) rs).lanes ≡ lanes
same_lanes lanes [] = refl
same_lanes lanes (r ∷ rs) = refl

module _ {D E : Type 0} {met : Ghosts D} (lanes : ℕ) (rs : List Record) (some : rs ≢ []) where
  pub has_lanes : (r : Result (Journal D met) E) → IfOk r (λ j. Numbers j (with_batch (fresh lanes) rs)) → IfOk r (λ j. (numbers_of j).lanes ≡ lanes)
  has_lanes (Ok j) numbers = numbers.lanes ∙ same_lanes lanes rs
  has_lanes (Err e) numbers = tt

  pub has_one : (r : Result (Journal D met) E) → IfOk r (λ j. Numbers j (with_batch (fresh lanes) rs)) → IfOk r (λ j. (numbers_of j).batches ≡ 1)
  has_one (Ok j) numbers = numbers.batches ∙ one_batch lanes rs some
  has_one (Err e) numbers = tt

-- ---- why none is made

module _ (c : Contents) (rs : List Record) (first : AreFirstRecords c rs) (told : Type 0) (file : List ℕ) (room before : ℕ) where
  may_refuse : (now : ℕ) (why : Why) → MayRefuseFirst rs told file room before now why → MayRefuseMaking c told file room before now why
  may_refuse now DiskFault h = (rs, first, h)
  may_refuse now (NotAJournal at) h = (rs, first, h)
  may_refuse now (JournalFull end need most) h = (rs, first, h)
  may_refuse now Exists h = (rs, first, h)
  may_refuse now NoMemory h = tt

  pub refused_by : {A E : Type 0} (now : E → ℕ) (why : E → Why) (r : Result A E) → IfErr r (λ e. MayRefuseFirst rs told file room before (now e) (why e))
      → IfErr r (λ e. MayRefuseMaking c told file room before (now e) (why e))
  refused_by now why r = err_map r (λ e. MayRefuseFirst rs told file room before (now e) (why e)) (λ e. MayRefuseMaking c told file room before (now e) (why e)) (λ e h. may_refuse (now e) (why e) h)
