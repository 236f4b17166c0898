-- What a journal, a batch that is pending and one that is building keep of a world.
--     TellsOne tells ws held      what is held describes one of some worlds
--     HoldsOne tells ws file      so does what a file holds
--     IsBacked tells j building says ws      all is kept, and a crash leaves one of these worlds
--     IsNewKeeping k      nothing waits, and nothing was kept
--     Keeps ..      what a keeping does
--     Builds ..      what it leaves to be written
use Rattle.std.specs.Prelude.{◌≡◌, ◌⊎◌, ℕ, ◌+◌, ◌<◌, List, [], ◌∷◌, Option, Some, None, Result, Ok, Err, OnOk, IfErr}
use Rattle.edge_traits.specs.Causes.{Rose}
use Rattle.edge_traits.specs.declared.disk.Disk.{Ghosts}
use Rattle.flush_journal.specs.Files.{Content, held}
use Rattle.flush_journal.specs.Frames.{need_of}
use Rattle.flush_journal.specs.Moments.{CrashLeaves}
use Rattle.flush_journal.specs.Records.{Held, Record, put_all}
use Rattle.flush_journal.specs.Tries.{one_more}
use Rattle.flush_journal.specs.declared.report.Report.{Report}
use Rattle.flush_journal.specs.Standing.{IsOwed, IsSettled, disk_of, end_of, pending_of}
use Rattle.flush_journal.specs.Unchanged.{SameDisk}
use Rattle.flush_journal.specs.declared.journal.Journal.{Journal}
use Rattle.flush_journal.specs.declared.why.Why.{Why}
use Rattle.flush_journal.specs.declared.why.Why.TheVariants.{DiskFault, NotAJournal, JournalFull, Exists, NoMemory}
use Rattle.flush_journal.specs.Cuts.Cuts.{AppendsOnce}
use Rattle.flush_journal.specs.Batches.{records}
use Rattle.flush_journal.specs.declared.keepings.keeping.Keeping.{Keeping}

-- ---- worlds that are held

abbrev pub TellsOne : {W : Type 0} → (Held → W → Type 0) → List W → Held → Type 0
TellsOne tells [] m = ⊥
TellsOne tells (w ∷ ws) m = tells m w ⊎ TellsOne tells ws m

abbrev pub HoldsOne : {W : Type 0} → (Held → W → Type 0) → List W → List ℕ → Type 0
HoldsOne tells ws file = (m : Held) × (held file ≡ Some m) × TellsOne tells ws m

-- ---- how a world is kept

-- what is held, with what is pending and what is building, tells the world; and whatever a crash leaves holds one of some worlds
pub data IsBacked {D W : Type 0} {met : Ghosts D} (tells : Held → W → Type 0) (j : Journal D met) (building : List Record) (says : Held → Type 0) (ws : List W) : Type 0 where
  settled : (c : Content) → IsSettled j c → TellsOne tells ws c.held → says (put_all building c.held) → IsBacked tells j building says ws
  owed : (c : Content) (rs : List Record) → IsOwed j c rs → TellsOne tells ws c.held → TellsOne tells ws (put_all rs c.held)
      → says (put_all building (put_all rs c.held)) → IsBacked tells j building says ws

-- nothing waits to be written, nothing is building, and no request was kept
pub record IsNewKeeping {D : Type 0} {met : Ghosts D} (k : Keeping D met) : Type 0 where
  pub waits : pending_of k.journal ≡ None
  pub building : records k.building ≡ []
  pub kept : k.kept ≡ 0

-- ---- a keeping

-- after Ok whatever a crash leaves holds the world as it stands now; after a refusal it may also hold one of before
abbrev pub worlds_after : {W T E : Type 0} → List W → W → Result T E → List W
worlds_after ws now (Ok done) = now ∷ []
worlds_after ws now (Err refusal) = now ∷ ws

-- why a keeping may be refused: by a fault only where the disk's count rose; for want of room only where the batch that is pending then
-- doesn't fit behind the journal's end; and for want of memory only where nothing is pending
abbrev pub MayRefuseKeeping : {D : Type 0} {met : Ghosts D} → Journal D met → Journal D met → Why → Type 0
MayRefuseKeeping {met} old new DiskFault = Rose (met.faults (disk_of old)) (met.faults (disk_of new))
MayRefuseKeeping {met} old new (JournalFull end need room) =
    (rs : List Record) × (pending_of new ≡ Some rs) × (end ≡ end_of new) × (need ≡ need_of rs) × (room ≡ met.most (disk_of new)) × (room < end + need)
MayRefuseKeeping old new NoMemory = pending_of new ≡ None
MayRefuseKeeping old new (NotAJournal at) = ⊥
MayRefuseKeeping old new Exists = ⊥

-- from a journal with what is building, and what tells the world, to these afterwards; now is the world as it stands
pub record Keeps {D W T : Type 0} {met : Ghosts D} (tells : Held → W → Type 0) (old new : Journal D met) (building built : List Record) (said says : Held → Type 0) (now : W)
    (result : Result T Why) : Type 0 where
  pub backed : met.honest → (ws : List W) → IsBacked tells old building said ws → IsBacked tells new built says (worlds_after ws now result)
  pub crash : met.honest → (ws : List W) → IsBacked tells old building said ws → CrashLeaves met (disk_of old) (disk_of new) (HoldsOne tells (now ∷ ws))
  pub idle : OnOk result (pending_of new ≡ None)
  pub disk : SameDisk met (disk_of old) (disk_of new)
  pub cause : IfErr result (MayRefuseKeeping old new)
  pub full : (rs : List Record) → pending_of new ≡ Some rs → met.most (disk_of new) < end_of new + need_of rs
      → result ≡ Err (JournalFull (end_of new) (need_of rs) (met.most (disk_of new)))

-- ---- what a keeping leaves to be written

-- the journal's numbers once the batch that waited is written
abbrev pub with_waiting : Report → Option (List Record) → Report
with_waiting numbers None = numbers
with_waiting numbers (Some rs) = one_more numbers rs

-- and once a batch is; one without records isn't written
abbrev pub with_written : Report → List Record → Report
with_written numbers [] = numbers
with_written numbers (r ∷ rs) = one_more numbers (r ∷ rs)

-- from the journal's numbers, the batch that waited and what was building, to the same afterwards; what a cut adds has a property
pub data Builds (P : Record → Type 0) (from : Report) (waiting : Option (List Record)) (building : List Record) (to : Report) (left : Option (List Record)) (built : List Record) : Type 0 where
  -- the batch that waited still does
  unsettled : (rs : List Record) → waiting ≡ Some rs → left ≡ Some rs → built ≡ building → to ≡ from → Builds P from waiting building to left built
  -- records were cut, and not appended
  uncut : left ≡ None → AppendsOnce P building built → to ≡ with_waiting from waiting → Builds P from waiting building to left built
  -- what was building and what was cut waits
  waits : (rs : List Record) → left ≡ Some rs → AppendsOnce P building rs → built ≡ [] → to ≡ with_waiting from waiting → Builds P from waiting building to left built
  -- all of it is written
  written : (rs : List Record) → left ≡ None → AppendsOnce P building rs → built ≡ [] → to ≡ with_written (with_waiting from waiting) rs → Builds P from waiting building to left built
