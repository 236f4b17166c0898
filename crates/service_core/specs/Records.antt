-- What a journal holds of a world, and the world that it holds.
--     WorldSays s held      what is held tells the world, but for what is to be written
--     WorldStillSays old new      so it does after a change, where it did before
--     IsWorldMarked s key      the next cut writes the record of a key
--     IsWorldRecord w r      a record is of what stands in a world
--     IsCutRecord s r      the next cut writes this record
--     IsKept s      nothing is to be written
--     as_kept s      the world as requests see it, whatever of it is to be written
--     DescribesWorld held run w      what is held describes the world, in this run
--     IsWorldOf held lanes s      the world that is described, at the begin of the next run
--     IsWorldFault lanes held key      the key that is named where none is described
use Rattle.std.specs.Prelude.{◌≡◌, ℕ, ◌⊎◌, List, Result, Ok, Err}
use Rattle.flush_journal.specs.Records.{Held, Record}
use Rattle.flush_journal.specs.declared.why.Why.{Why}
use Rattle.flush_journal.specs.declared.why.Why.TheVariants as why
use Rattle.object_records.specs.Keys.Keys.{run_key}
use Rattle.object_records.specs.Keys.Numbers.{run_bytes}
use Rattle.containers.specs.TextMaps.Fronts.{IsLeast}
use Rattle.chunk_owner.specs.Slots.Bodies.{IsObjectRecord}
use Rattle.chunk_owner.specs.Owners.Records.{AreFaultless, AreGivenUpTo, AreStillIn, AreUndropped, DescribesObjects, IsFirstFault, IsMarkedIn, IsStandingRecord, LanesSay}
use Rattle.register.specs.Installed.Registers.{DescribesRegister, IsNextNumber, IsRegisterFault, IsRun}
use Rattle.register.specs.Decided.{RegisterState}
use Rattle.register.specs.declared.installs.InstallFault.{InstallFault}
use Rattle.register.specs.declared.installs.InstallFault.TheVariants.{BadRecord, RunsUsed, NoMemory}
use Rattle.register.specs.Kept.{IsInstalled, IsRegisterMarked, IsRegisterRecord, RegisterSays, all_kept}
use Rattle.service_core.specs.Strays.Strays.{HasNoStrays, IsStray}
use Rattle.service_core.specs.Steps.{World}
use Rattle.service_core.specs.Worlds.{State, seen}

-- ---- what is held

-- of each record but those that are to be written; and nothing is held besides
pub record WorldSays (s : State) (held : Held) : Type 0 where
  pub register : RegisterSays s.register held
  pub lanes : LanesSay s.lanes held
  pub strays : HasNoStrays held

-- what is held tells the world where it told what was before
abbrev pub WorldStillSays : State → State → Type 0
WorldStillSays old new = (held : Held) → WorldSays old held → WorldSays new held

abbrev pub IsWorldMarked : State → List ℕ → Type 0
IsWorldMarked s key = IsRegisterMarked s.register key ⊎ IsMarkedIn s.lanes key

pub record IsKept (s : State) : Type 0 where
  pub register : s.register ≡ all_kept s.register
  pub lanes : AreStillIn s.lanes

-- the same world, whatever of it is to be written
pub record IsSameWorld (old new : State) : Type 0 where
  pub register : all_kept new.register ≡ all_kept old.register
  pub objects : (seen new).objects ≡ (seen old).objects

abbrev pub as_kept : State → World
as_kept s = record { register = all_kept s.register; objects = (seen s).objects }

-- ---- the records of a cut

-- a record of what stands in a world: of its register, or of an object
pub data IsWorldRecord (w : World) (r : Record) : Type 0 where
  of_register : IsRegisterRecord w.register r → IsWorldRecord w r
  of_object : IsObjectRecord w.objects r → IsWorldRecord w r

-- a record that the next cut writes: its key is marked, and its body is what stands there; where no object was removed since the last cut,
-- it is of one that stands
pub record IsCutRecord (s : State) (r : Record) : Type 0 where
  pub marked : IsWorldMarked s r.0
  pub stands : IsWorldRecord (as_kept s) r
  pub standing : AreUndropped s.lanes → IsRegisterRecord (all_kept s.register) r ⊎ IsStandingRecord (as_kept s).objects r

-- ---- the world that is described

-- by the records of the run and of the next domain's number, of each folder and domain, and of each object and its chunks; there is no other
pub record DescribesWorld (held : Held) (run : ℕ) (w : World) : Type 0 where
  pub register : DescribesRegister held run w.register.catalogue
  pub objects : DescribesObjects held w.objects
  pub given : AreGivenUpTo run w.register.catalogue.next w.objects
  pub strays : HasNoStrays held

-- no place and no ticket was given, and no serial
pub record IsWorldOf (held : Held) (lanes : ℕ) (s : State) : Type 0 where
  pub register : IsInstalled held lanes s.register
  pub describes : DescribesWorld held register.kept (seen s)

-- ---- a key at fault

-- the least of the register's; else, where the run and the next number are known, the least of the first lane that has one; else the least of no part
pub data IsWorldFault (lanes : ℕ) (held : Held) (key : List ℕ) : Type 0 where
  of_register : IsLeast (IsRegisterFault held) key → IsWorldFault lanes held key
  of_lane : (run next : ℕ) → IsRun held run → IsNextNumber held next → ((q : List ℕ) → IsRegisterFault held q → ⊥) → IsFirstFault lanes run next held key → IsWorldFault lanes held key
  of_none : (run next : ℕ) → IsRun held run → IsNextNumber held next → ((q : List ℕ) → IsRegisterFault held q → ⊥) → AreFaultless lanes run next held → IsLeast (IsStray held) key
      → IsWorldFault lanes held key

-- the fault of a record is named by the record's key
abbrev pub Names : List ℕ → InstallFault → Type 0
Names key (BadRecord k) = k.items ≡ key
Names key RunsUsed = ⊥
Names key NoMemory = Unit {0}

-- the key is told; but for want of memory
abbrev pub IsKeyTold : List ℕ → InstallFault → Type 0
IsKeyTold key (BadRecord k) = k.items ≡ key
IsKeyTold key RunsUsed = ⊥
IsKeyTold key NoMemory = Unit {0}

abbrev pub TellsKey : {A : Type 0} → List ℕ → Result A InstallFault → Type 0
TellsKey key (Ok s) = ⊥
TellsKey key (Err fault) = IsKeyTold key fault

-- ---- the begin of a run

abbrev pub run_record : RegisterState → Record
run_record d = (run_key, run_bytes d.run)

-- memory ran out and the one holds, or the other does
abbrev pub OrNoMemory : Result (Unit {0}) Why → Type 0 → Type 0 → Type 0
OrNoMemory result nothing done = ((result ≡ Err why.NoMemory) × nothing) ⊎ done
