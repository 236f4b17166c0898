-- Why no world is opened.
use Rattle.std.specs.Prelude.{◌≡◌, ℕ, List, Result, Ok, Err}
use Rattle.edge_traits.specs.Causes.{Rose}
use Rattle.flush_journal.specs.Files.{Content, content}
use Rattle.flush_journal.specs.declared.why.Why.{Why}
use Rattle.flush_journal.specs.declared.why.Why.TheVariants as why
use Rattle.register.specs.declared.installs.InstallFault.{InstallFault}
use Rattle.register.specs.declared.installs.InstallFault.TheVariants as install
use Rattle.register.specs.Kept.{IsUsedUp}
use Rattle.service_core.specs.Records.{IsWorldFault}
use Rattle.service_core.specs.declared.journals.faults.OpenFault.{OpenFault}
use Rattle.service_core.specs.declared.journals.faults.OpenFault.TheVariants.{DiskFault, NotAJournal, BadRecord, RunsUsed, NoMemory}
use Rattle.service_core.specs.declared.journals.faults.OpenRefused.{OpenRefused}

-- the file is a journal, and this holds of what it stands for
abbrev pub IsOf : List ℕ → (Content → Type 0) → Type 0
IsOf file P = (c : Content) × (content file ≡ Ok c) × P c

-- the key is the one at fault, and a run is left: that none is left is told before any key but the register's
abbrev pub IsToldFault : Content → List ℕ → Type 0
IsToldFault c key = IsWorldFault c.lanes c.held key × (IsUsedUp c.held → ⊥)

-- An opening may be refused by a fault only where the disk's count rose from `before` to `now`; with a place only where the file is
-- no journal for what stands there; with a key only where the file is a journal, the key is the one at fault and a run is left; and
-- for want of a run only where the kept run is the last.
abbrev pub MayRefuseOpening : Type 0 → List ℕ → (before now : ℕ) → OpenFault → Type 0
MayRefuseOpening told file before now DiskFault = Rose before now
MayRefuseOpening told file before now (NotAJournal at) = told → content file ≡ Err at
MayRefuseOpening told file before now (BadRecord key) = told → IsOf file (λ c. IsToldFault c key.items)
MayRefuseOpening told file before now RunsUsed = told → IsOf file (λ c. IsUsedUp c.held)
MayRefuseOpening told file before now NoMemory = Unit {0}

-- the place is told; but for a fault of the disk, and want of memory
abbrev pub IsPlaceTold : ℕ → OpenFault → Type 0
IsPlaceTold at DiskFault = Unit {0}
IsPlaceTold at (NotAJournal place) = place ≡ at
IsPlaceTold at (BadRecord key) = ⊥
IsPlaceTold at RunsUsed = ⊥
IsPlaceTold at NoMemory = Unit {0}

abbrev pub TellsPlace : {A D : Type 0} → ℕ → Result A (OpenRefused D) → Type 0
TellsPlace at (Ok opened) = ⊥
TellsPlace at (Err refused) = IsPlaceTold at refused.why

-- it is told that no run is left; but for a fault of the disk, and want of memory
abbrev pub IsUseTold : OpenFault → Type 0
IsUseTold DiskFault = Unit {0}
IsUseTold (NotAJournal at) = ⊥
IsUseTold (BadRecord key) = ⊥
IsUseTold RunsUsed = Unit {0}
IsUseTold NoMemory = Unit {0}

abbrev pub TellsNoRun : {A D : Type 0} → Result A (OpenRefused D) → Type 0
TellsNoRun (Ok opened) = ⊥
TellsNoRun (Err refused) = IsUseTold refused.why

-- the key is told; but for a fault of the disk, and want of memory
abbrev pub IsBadKeyTold : List ℕ → OpenFault → Type 0
IsBadKeyTold key DiskFault = Unit {0}
IsBadKeyTold key (NotAJournal at) = ⊥
IsBadKeyTold key (BadRecord k) = k.items ≡ key
IsBadKeyTold key RunsUsed = ⊥
IsBadKeyTold key NoMemory = Unit {0}

abbrev pub TellsBadKey : {A D : Type 0} → List ℕ → Result A (OpenRefused D) → Type 0
TellsBadKey key (Ok opened) = ⊥
TellsBadKey key (Err refused) = IsBadKeyTold key refused.why

-- ---- what the calls below say

abbrev pub of_install : InstallFault → OpenFault
of_install (install.BadRecord key) = BadRecord key
of_install install.RunsUsed = RunsUsed
of_install install.NoMemory = NoMemory

-- a reading may be refused so
abbrev pub IsOfReading : Why → Type 0
IsOfReading why.DiskFault = Unit {0}
IsOfReading (why.NotAJournal at) = Unit {0}
IsOfReading (why.JournalFull end need room) = ⊥
IsOfReading why.Exists = ⊥
IsOfReading why.NoMemory = Unit {0}

abbrev pub of_reading : Why → OpenFault
of_reading why.DiskFault = DiskFault
of_reading (why.NotAJournal at) = NotAJournal at
of_reading (why.JournalFull end need room) = NoMemory
of_reading why.Exists = NoMemory
of_reading why.NoMemory = NoMemory
