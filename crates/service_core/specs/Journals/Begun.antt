-- A journal that is opened, and the begin of a run of its world.
--     IsRecovered held w      the world that is held, at the begin of the run after the kept one
--     IsInstalledWorld w      some records tell the world, at the begin of the next run
--     IsBegunWorld s      such a world, in its run
--     IsOpened j w c      a journal is opened with its content, and tells the world
--     IsUnbegun before after why      the record of a run was refused
--     IsBegun j s c      the journal is settled, with the record of the run that the world is in
--     IsUnstarted before after fault      no run was begun
use Rattle.std.specs.Prelude.{◌≡◌, ⊤, ℕ, ◌+◌, List, [], ◌∷◌, Ok}
use Rattle.edge_traits.specs.declared.disk.Disk.{Ghosts}
use Rattle.flush_journal.specs.Files.{Content, content}
use Rattle.flush_journal.specs.Frames.{need_of}
use Rattle.flush_journal.specs.Moments.{CrashLeaves, CrashLeavesSince}
use Rattle.flush_journal.specs.Records.{Held, put_record}
use Rattle.flush_journal.specs.Refusals.{MayRefuse}
use Rattle.flush_journal.specs.Standing.{HoldsEither, IsSettled, disk_of, end_of, with_batch}
use Rattle.flush_journal.specs.Unchanged.{SameBytes}
use Rattle.flush_journal.specs.declared.journal.Journal.{Journal}
use Rattle.flush_journal.specs.declared.why.Why.{Why}
use Rattle.flush_journal.specs.declared.why.Why.TheVariants as why
use Rattle.chunk_owner.specs.Owners.Records.{AreStillIn}
use Rattle.register.specs.Kept.{run_kept}
use Rattle.service_core.specs.Described.Told.{AreWhole}
use Rattle.service_core.specs.Journals.Opening.{IsOf, MayRefuseOpening}
use Rattle.service_core.specs.Records.{DescribesWorld, IsKept, IsWorldOf, WorldSays, run_record}
use Rattle.service_core.specs.Steps.{World}
use Rattle.service_core.specs.Worlds.{State, seen, with_register}
use Rattle.service_core.specs.declared.journals.beginning.BeginFault.{BeginFault}
use Rattle.service_core.specs.declared.journals.beginning.BeginFault.TheVariants.{Unopened, Unbegun}
use Rattle.service_core.specs.declared.journals.faults.OpenFault.TheVariants as fault

-- the world at the begin of a run
pub record IsRecovered (held : Held) (w : World) : Type 0 where
  pub kept : ℕ
  pub described : DescribesWorld held kept w
  pub run : w.register.run ≡ kept + 1
  pub serial : w.register.serial ≡ 0
  pub places : w.register.places ≡ 0
  pub whole : AreWhole w.objects

-- the record of a run may be refused so: by a fault only where the disk's count rose, and for want of room only where it doesn't fit
-- behind the journal's end
abbrev pub MayRefuseRun : World → (end room before now : ℕ) → Why → Type 0
MayRefuseRun w end room before now why.NoMemory = Unit {0}
MayRefuseRun w end room before now why = MayRefuse end (need_of (run_record w.register ∷ [])) room before now why

-- for want of room or of memory nothing is written
abbrev pub IsUnwritten : Why → Type 0
IsUnwritten why.DiskFault = ⊥
IsUnwritten (why.JournalFull end need room) = ⊤
IsUnwritten (why.NotAJournal at) = ⊥
IsUnwritten why.Exists = ⊥
IsUnwritten why.NoMemory = ⊤

-- The record of a run was refused, and whatever a crash leaves holds what was held, with that record or without it; where nothing was written,
-- it has the content that the file had. A crash before that might have left an image of before.
pub record IsUnbegun {D : Type 0} (met : Ghosts D) (before after : D) (why : Why) : Type 0 where
  pub world : World
  pub recovered : met.honest → IsOf (met.reads before) (λ c. IsRecovered c.held world)
  pub end : ℕ
  pub behind : met.honest → IsOf (met.reads before) (λ c. end ≡ c.end)
  pub cause : MayRefuseRun world end (met.most before) (met.faults before) (met.faults after) why
  pub images : met.honest → (image : List ℕ) → met.images after image → IsOf (met.reads before) (λ c. HoldsEither c.held (put_record (run_record world.register) c.held) image)
  pub unwritten : met.honest → IsUnwritten why → (image : List ℕ) → met.images after image → IsOf (met.reads before) (λ c. content image ≡ Ok c)
  pub crash : met.honest → IsOf (met.reads before) (λ c. CrashLeavesSince met before after (HoldsEither c.held (put_record (run_record world.register) c.held)))

-- ---- a world that was opened

-- it is the one that some records tell, and in its run nothing of it is to be written; so it is on every disk
pub record IsInstalledWorld (w : State) : Type 0 where
  pub held : Held
  pub lanes : ℕ
  pub world : IsWorldOf held lanes w
  pub still : AreStillIn w.lanes

-- the disk tells the world that a journal keeps
pub record IsOpened {D : Type 0} {met : Ghosts D} (j : Journal D met) (w : State) (c : Content) : Type 0 where
  pub settled : IsSettled j c
  pub world : IsWorldOf c.held c.lanes w
  pub says : WorldSays w c.held
  pub still : AreStillIn w.lanes
  pub whole : AreWhole (seen w).objects

-- the same world in its run, whose record is held
abbrev pub begun : State → State
begun w = with_register w (run_kept w.register)

-- ---- a run that was begun

-- a world that was opened, in its run
abbrev pub IsBegunWorld : State → Type 0
IsBegunWorld s = (w : State) × IsInstalledWorld w × (s ≡ begun w)

-- the journal is settled, with the run's record behind what it held, and tells the world with it,
-- of which nothing is to be written
pub record IsBegun {D : Type 0} {met : Ghosts D} (j : Journal D met) (s : State) (c : Content) : Type 0 where
  pub recovered : IsRecovered c.held (seen s)
  pub kept : IsKept s
  pub settled : IsSettled j (with_batch c (run_record s.register ∷ []))
  pub says : WorldSays s (put_record (run_record s.register) c.held)
  pub describes : DescribesWorld (put_record (run_record s.register) c.held) s.register.run (seen s)

-- so it is, and whatever a crash left since a disk as it was holds what was held, with that record or without it, but for an image of before
pub record IsBegunSince {D : Type 0} (met : Ghosts D) (before : D) (j : Journal D met) (s : State) (c : Content) : Type 0 where
  pub begun : IsBegun j s c
  pub crash : CrashLeavesSince met before (disk_of j) (HoldsEither c.held (put_record (run_record s.register) c.held))

-- ---- a run that was not begun

-- no world was opened, and no byte was changed; or the record of the run was refused
abbrev pub IsUnstarted : {D : Type 0} (met : Ghosts D) → D → D → BeginFault → Type 0
IsUnstarted met before after (Unopened why) =
    MayRefuseOpening met.honest (met.reads before) (met.faults before) (met.faults after) why × (met.honest → SameBytes met before after)
IsUnstarted met before after (Unbegun why) = IsUnbegun met before after why

-- the disk had a fault
abbrev pub IsOfDisk : BeginFault → Type 0
IsOfDisk (Unopened refusal) = refusal ≡ fault.DiskFault
IsOfDisk (Unbegun refusal) = refusal ≡ why.DiskFault

-- ---- what the begin of a run of an opened world says

-- the record of the run was refused
pub record IsRunRefused {D : Type 0} {met : Ghosts D} (j : Journal D met) (w : State) (after : D) (why : Why) : Type 0 where
  pub cause : MayRefuseRun (seen w) (end_of j) (met.most (disk_of j)) (met.faults (disk_of j)) (met.faults after) why
  pub images : met.honest → (image : List ℕ) → met.images after image → (c : Content) → IsSettled j c → HoldsEither c.held (put_record (run_record w.register) c.held) image
  pub unwritten : met.honest → IsUnwritten why → (image : List ℕ) → met.images after image → (c : Content) → IsSettled j c → content image ≡ Ok c
  pub crash : met.honest → (c : Content) → IsSettled j c → CrashLeaves met (disk_of j) after (HoldsEither c.held (put_record (run_record w.register) c.held))

abbrev pub IsRunRefusal : {D : Type 0} {met : Ghosts D} → Journal D met → State → D → BeginFault → Type 0
IsRunRefusal j w after (Unopened why) = ⊥
IsRunRefusal j w after (Unbegun why) = IsRunRefused j w after why
