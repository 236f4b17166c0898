-- What an import over a disk does.
--     HoldsOneOf held first last      a file holds what was held, or one of two worlds
--     BeginsAlone before after first      a run was begun, and nothing but its record is kept
--     KeepsAdopted before after path owner .. last      a document was adopted, and a keeping of it was answered so
--     CameTo before after path owner .. outcome      what an import came to
use Rattle.std.specs.Prelude.{◌≡◌, ◌⊎◌, ℕ, ◌≤◌, List, [], ◌∷◌, Option, Some, Result, Ok, Err, OnOk}
use Rattle.service_core.specs.Described.Told.{AreWhole}
use Rattle.json_import.specs.Adoption.Adopted.{IsReadBack, counts_of}
use Rattle.edge_traits.specs.Causes.{Rose}
use Rattle.edge_traits.specs.declared.disk.Disk.{Ghosts}
use Rattle.flush_journal.specs.Files.{content, held}
use Rattle.flush_journal.specs.Records.{Held, put_record}
use Rattle.flush_journal.specs.Standing.{HoldsEither, IsSettled, disk_of, with_batch}
use Rattle.flush_journal.specs.declared.why.Why.{Why}
use Rattle.flush_journal.specs.declared.why.Why.TheVariants as why
use Rattle.flush_journal.specs.declared.keepings.keeping.Keeping.{Keeping}
use Rattle.documents.specs.declared.reader.loaded.Loaded.{Loaded}
use Rattle.service_core.specs.Journals.Opening.{IsOf}
use Rattle.service_core.specs.declared.journals.beginning.BeginFault.TheVariants as begin
use Rattle.service_core.specs.declared.journals.faults.OpenFault.TheVariants as fault
use Rattle.flush_journal.specs.Keepings.Keepings.{IsNewKeeping}
use Rattle.flush_journal.specs.Moments.{CrashLeavesSince}
use Rattle.service_core.specs.Journals.Begun.{IsRecovered, IsUnstarted}
use Rattle.service_core.specs.KeptWorlds.{KeepsWorld, HoldsWorld}
use Rattle.service_core.specs.Records.{run_record}
use Rattle.service_core.specs.Steps.{World}
use Rattle.service_core.specs.Worlds.{State, seen}
use Rattle.edge_traits.specs.SourceTexts.Texts.{IsTaken}
use Rattle.json_import.specs.Kept.Documents.{IsAccepted, IsRefused, adopted}
use Rattle.json_import.specs.declared.kept.outcome.Outcome.{Outcome}
use Rattle.json_import.specs.declared.kept.outcome.Outcome.TheVariants.{Unopened, Unbegun, Unread, Refused, NoMemory, Unkept, Adopted}

-- ---- what a crash leaves

abbrev pub HoldsOneOf : Held → World → World → List ℕ → Type 0
HoldsOneOf m first last file = (held file ≡ Some m) ⊎ (HoldsWorld first file ⊎ HoldsWorld last file)

-- ---- a run in which nothing was kept

-- The world that the disk kept is in a new run. Whatever a crash leaves is what the disk had and one batch more, that of the run's record, which holds
-- this world; whatever a crash left since the begin held what was held, with that record or without it, but for an image of before.
pub record BeginsAlone {D : Type 0} (met : Ghosts D) (before after : D) (first : World) : Type 0 where
  pub recovered : met.honest → IsOf (met.reads before) (λ c. IsRecovered c.held first)
  pub only : met.honest → IsOf (met.reads before) (λ c. (image : List ℕ) → met.images after image → content image ≡ Ok (with_batch c (run_record first.register ∷ [])))
  pub images : met.honest → (image : List ℕ) → met.images after image → HoldsWorld first image
  pub crash : met.honest → IsOf (met.reads before) (λ c. CrashLeavesSince met before after (HoldsEither c.held (put_record (run_record first.register) c.held)))

-- ---- a document that was adopted

-- A document was adopted in the world that the disk kept, in its new run, in which it is read back at the path; and the first keeping of that was
-- answered so. Whatever a crash leaves then holds the one world or the other, and after Ok the world with the document; whatever a crash left since
-- the begin held what was held or one of the two, but for an image of before.
pub record KeepsAdopted {D : Type 0} (met : Ghosts D) (before after : D) (path owner : List ℕ) (left_before left_after : Option (List ℕ)) (last : Result ℕ Why) : Type 0 where
  pub first : World
  pub recovered : met.honest → IsOf (met.reads before) (λ c. IsRecovered c.held first)
  pub loaded : Loaded
  pub accepted : IsAccepted left_before left_after first path loaded
  pub begun : Keeping D met
  pub settled : met.honest → IsOf (met.reads before) (λ c. IsSettled begun.journal (with_batch c (run_record first.register ∷ [])))
  pub begins : IsNewKeeping begun
  pub state : State
  pub is_adopted : seen state ≡ adopted first path owner loaded
  pub objects : AreWhole (adopted first path owner loaded).objects
  pub document : IsReadBack first.register loaded (adopted first path owner loaded) path
  pub ended : Keeping D met
  pub kept : State
  pub last_keeping : KeepsWorld begun state ended kept last
  pub disk : after ≡ disk_of ended.journal
  pub images : met.honest → (image : List ℕ) → met.images after image → HoldsWorld first image ⊎ HoldsWorld (adopted first path owner loaded) image
  pub whole : met.honest → OnOk last ((image : List ℕ) → met.images after image → HoldsWorld (adopted first path owner loaded) image)
  pub crash : met.honest → IsOf (met.reads before) (λ c. CrashLeavesSince met before after (HoldsOneOf c.held first (adopted first path owner loaded)))

-- ---- what an import came to

abbrev pub CameTo : {D : Type 0} (met : Ghosts D) → D → D → (path owner : List ℕ) → (left_before left_after : Option (List ℕ)) → Outcome → Type 0
CameTo met before after path owner lb la (Unopened why) = IsUnstarted met before after (begin.Unopened why) × (la ≡ lb)
CameTo met before after path owner lb la (Unbegun why) = IsUnstarted met before after (begin.Unbegun why) × (la ≡ lb)
CameTo met before after path owner lb la Unread = (first : World) × BeginsAlone met before after first × IsTaken lb la
CameTo met before after path owner lb la Refused = (first : World) × BeginsAlone met before after first × IsRefused lb la first path
CameTo met before after path owner lb la NoMemory = (first : World) × BeginsAlone met before after first × IsTaken lb la
CameTo met before after path owner lb la (Unkept why) = KeepsAdopted met before after path owner lb la (Err why)
CameTo met before after path owner lb la (Adopted counts) =
    (n : ℕ) × (k : KeepsAdopted met before after path owner lb la (Ok n)) × (counts ≡ counts_of k.loaded)

-- the count of the source's faults didn't fall, and it rose where a fault is told
abbrev pub HasCauseOf : ℕ → ℕ → Outcome → Type 0
HasCauseOf before now (Unopened why) = now ≡ before
HasCauseOf before now (Unbegun why) = now ≡ before
HasCauseOf before now Unread = Rose before now
HasCauseOf before now outcome = before ≤ now

-- the disk had a fault
abbrev pub IsImportDiskFault : Outcome → Type 0
IsImportDiskFault (Unopened refusal) = refusal ≡ fault.DiskFault
IsImportDiskFault (Unbegun refusal) = refusal ≡ why.DiskFault
IsImportDiskFault (Unkept refusal) = refusal ≡ why.DiskFault
IsImportDiskFault outcome = ⊥
