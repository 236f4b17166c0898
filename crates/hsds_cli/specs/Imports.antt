-- What `import` does with the journal that stands on a disk.
--     Imports, ImportsNone, ImportsUnkept      a document was adopted and kept; none was adopted; or keeping it was refused
--     IsImported met path owner ..      what `import` does, by its status
use Rattle.std.specs.Prelude.{◌≡◌, ◌⊎◌, ◌≤◌, ℕ, List, take, length, Option, Ok, Err}
use Rattle.std.specs.Io.KnownBytes.{Appends, Keeps}
use Rattle.json_import.specs.Adoption.Adopted.{counts_of}
use Rattle.edge_traits.specs.Causes.{Rose}
use Rattle.edge_traits.specs.declared.disk.Disk.{Ghosts}
use Rattle.flush_journal.specs.Unchanged.{SameBytes}
use Rattle.flush_journal.specs.declared.why.Why.{Why}
use Rattle.flush_journal.specs.declared.why.Why.TheVariants as why
use Rattle.json_import.specs.Kept.Documents.{IsRefused}
use Rattle.json_import.specs.Kept.Imports.{BeginsAlone, KeepsAdopted}
use Rattle.json_import.specs.declared.kept.outcome.Outcome.{Outcome}
use Rattle.json_import.specs.declared.kept.outcome.Outcome.TheVariants as outcome
use Rattle.service_core.specs.Journals.Begun.{IsUnbegun}
use Rattle.service_core.specs.Steps.{World}
use Rattle.edge_traits.specs.SourceTexts.Texts.{IsTaken}
use Rattle.hsds_cli.specs.declared.status.Status.{Status}
use Rattle.hsds_cli.specs.declared.status.Status.TheVariants.{Done, Words, Configuration, ReadFault, WriteFault, DiskFault, NotAJournal, Refused, JournalExists, DoorFault, InputCut, UsedUp, Budget, NoMemory}
use Rattle.hsds_cli.specs.Lines.{IsTold, import_line}
use Rattle.hsds_cli.specs.Openings.{HasNoRun, HasNoWorld, opening_status, refusal_status}
use Rattle.hsds_cli.specs.Sides.{InputFailed, IsUntouched, OutFailed, Sides}

-- the document that the input has was adopted and kept; and of the line on it so many bytes were printed
pub record Imports {D : Type 0} (met : Ghosts D) (path owner : List ℕ) (sides : Sides) (before after : D) : Type 0 where
  pub kept : ℕ
  pub adopts : KeepsAdopted met before after path owner sides.left_before sides.left_after (Ok kept)
  pub printed : ℕ
  pub appended : Appends sides.held_before sides.held_after (take printed (import_line (counts_of adopts.loaded)))

-- a run was begun, nothing but its record was kept, and nothing was printed
pub record ImportsNone {D : Type 0} (met : Ghosts D) (sides : Sides) (before after : D) : Type 0 where
  pub first : World
  pub alone : BeginsAlone met before after first
  pub taken : IsTaken sides.left_before sides.left_after
  pub held : Keeps sides.held_before sides.held_after

-- a document was adopted, keeping it was refused, and nothing was printed
pub record ImportsUnkept {D : Type 0} (met : Ghosts D) (path owner : List ℕ) (sides : Sides) (before after : D) (why : Why) : Type 0 where
  pub adopts : KeepsAdopted met before after path owner sides.left_before sides.left_after (Err why)
  pub held : Keeps sides.held_before sides.held_after

-- no world was opened: no byte of the disk changed, and nothing was read or printed
pub record IsUnopened {D : Type 0} (met : Ghosts D) (sides : Sides) (before after : D) : Type 0 where
  pub bytes : met.honest → SameBytes met before after
  pub untouched : IsUntouched sides

-- the journal refused the record of the run, or what was adopted
abbrev pub IsStopped : {D : Type 0} (met : Ghosts D) → List ℕ → List ℕ → Sides → D → D → Why → Type 0
IsStopped met path owner sides before after why =
    (IsUnbegun met before after why × IsUntouched sides) ⊎ ImportsUnkept met path owner sides before after why

abbrev pub IsImported : {D : Type 0} (met : Ghosts D) → List ℕ → List ℕ → Sides → D → D → Status → Type 0
IsImported met path owner sides before after Done =
    (i : Imports met path owner sides before after) × (length (import_line (counts_of i.adopts.loaded)) ≤ i.printed)
IsImported met path owner sides before after ReadFault = InputFailed sides × ImportsNone met sides before after
IsImported met path owner sides before after WriteFault = OutFailed sides × Imports met path owner sides before after
IsImported met path owner sides before after DiskFault =
    Rose (met.faults before) (met.faults after) × (IsUnopened met sides before after ⊎ IsStopped met path owner sides before after why.DiskFault)
IsImported met path owner sides before after NotAJournal = (met.honest → HasNoWorld (met.reads before)) × IsUnopened met sides before after
IsImported met path owner sides before after Refused =
    (i : ImportsNone met sides before after) × IsRefused sides.left_before sides.left_after i.first path
IsImported met path owner sides before after UsedUp =
    ((met.honest → HasNoRun (met.reads before)) × IsUnopened met sides before after)
    ⊎ ((end : ℕ) × (need : ℕ) × (room : ℕ) × IsStopped met path owner sides before after (why.JournalFull end need room))
IsImported met path owner sides before after NoMemory =
    IsUnopened met sides before after
    ⊎ (IsStopped met path owner sides before after why.NoMemory
    ⊎ (ImportsNone met sides before after ⊎ ((i : Imports met path owner sides before after) × (i.printed ≡ 0))))
IsImported met path owner sides before after Words = ⊥
IsImported met path owner sides before after Configuration = ⊥
IsImported met path owner sides before after JournalExists = ⊥
IsImported met path owner sides before after DoorFault = ⊥
IsImported met path owner sides before after InputCut = ⊥
IsImported met path owner sides before after Budget = ⊥

-- ---- what the calls below say

-- the status of what an import came to; and its line was printed where a document is kept, else nothing
abbrev pub IsOutcomeTold : Outcome → Option (List ℕ) → Option (List ℕ) → (faults_before faults_after : ℕ) → Status → Type 0
IsOutcomeTold (outcome.Unopened why) before after faults_before faults_after status = (status ≡ opening_status why) × (after ≡ before)
IsOutcomeTold (outcome.Unbegun why) before after faults_before faults_after status = (status ≡ refusal_status why) × (after ≡ before)
IsOutcomeTold outcome.Unread before after faults_before faults_after status = (status ≡ ReadFault) × (after ≡ before)
IsOutcomeTold outcome.Refused before after faults_before faults_after status = (status ≡ Refused) × (after ≡ before)
IsOutcomeTold outcome.NoMemory before after faults_before faults_after status = (status ≡ NoMemory) × (after ≡ before)
IsOutcomeTold (outcome.Unkept why) before after faults_before faults_after status = (status ≡ refusal_status why) × (after ≡ before)
IsOutcomeTold (outcome.Adopted counts) before after faults_before faults_after status = IsTold (import_line counts) before after faults_before faults_after status
