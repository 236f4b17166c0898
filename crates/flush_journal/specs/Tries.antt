-- What a try to write a batch does: an append, or a later one.
use Rattle.std.specs.Prelude.{◌≡◌, ◌+◌, ◌<◌, List, length, Some, None, Result, Err, OnOk, OnErr}
use Rattle.edge_traits.specs.declared.disk.Disk.{Ghosts}
use Rattle.flush_journal.specs.Records.{Record}
use Rattle.flush_journal.specs.Files.{Content}
use Rattle.flush_journal.specs.Frames.{frame_of, need_of}
use Rattle.flush_journal.specs.Moments.{CrashLeaves}
use Rattle.flush_journal.specs.Refusals.{IsWriteAnswer}
use Rattle.flush_journal.specs.Standing.{disk_of, numbers_of, end_of, pending_of, with_batch, IsSettled, IsOwed, HasEither}
use Rattle.flush_journal.specs.declared.journal.Journal.{Journal}
use Rattle.flush_journal.specs.declared.report.Report.{Report}
use Rattle.flush_journal.specs.declared.why.Why.{Why}
use Rattle.flush_journal.specs.declared.why.Why.TheVariants.{JournalFull}

-- the numbers with one batch more
abbrev pub one_more : Report → List Record → Report
one_more r rs = record { version = r.version; lanes = r.lanes; batches = r.batches + 1; end = r.end + length (frame_of rs) }

-- With every disk: after Ok nothing is pending and the numbers count the batch, and after a refusal the records are pending and the
-- numbers stay. For want of room it is refused exactly by the three numbers, and then no call of the disk was made.
pub record Tries {D : Type 0} {met : Ghosts D} (old new : Journal D met) (rs : List Record) (result : Result (Unit {0}) Why) : Type 0 where
  pub done : OnOk result (pending_of new ≡ None)
  pub counted : OnOk result (numbers_of new ≡ one_more (numbers_of old) rs)
  pub pending : OnErr result (pending_of new ≡ Some rs)
  pub numbers : OnErr result (numbers_of new ≡ numbers_of old)
  pub cause : IsWriteAnswer (end_of old) (need_of rs) (met.most (disk_of old)) (met.faults (disk_of old)) (met.faults (disk_of new)) result
  pub refused : met.most (disk_of old) < end_of old + need_of rs → result ≡ Err (JournalFull (end_of old) (need_of rs) (met.most (disk_of old)))
  pub untouched : met.most (disk_of old) < end_of old + need_of rs → disk_of new ≡ disk_of old

-- With a disk that tells its bytes, where the file had this content: after Ok it has the batch too, and each image is it; after a
-- refusal the batch is owed; and at each moment of the call an image has the content of before, or that with the batch.
pub record Writes {D : Type 0} {met : Ghosts D} (old new : Journal D met) (c : Content) (rs : List Record) (result : Result (Unit {0}) Why) : Type 0 where
  pub ok : OnOk result (IsSettled new (with_batch c rs))
  pub err : OnErr result (IsOwed new c rs)
  pub moments : CrashLeaves met (disk_of old) (disk_of new) (HasEither c (with_batch c rs))
