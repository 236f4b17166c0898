-- What `serve` does with its doors and the journal that stands on a disk.
--     reports_status reports      the status of what workers tell, where all is kept
--     ServesDoors met desks links sides doors before after closed status      doors were served
--     IsServe met desks links sides doors before after closed status      what `serve` does, by its status
use Rattle.std.specs.Prelude.{◌≡◌, ◌⊎◌, ℕ, List, Bool, true, false, Option, Some, None, Result, if◌then◌else◌}
use Rattle.std.specs.List.{list_any}
use Rattle.std.specs.declared.snapshot.Snapshot.{Snapshot}
use Rattle.edge_traits.specs.Causes.{Rose}
use Rattle.edge_traits.specs.declared.disk.Disk.{Ghosts}
use Rattle.configuration.specs.declared.config.Config.{Config}
use Rattle.flush_journal.specs.Standing.{disk_of}
use Rattle.flush_journal.specs.Unchanged.{SameBytes}
use Rattle.flush_journal.specs.declared.journal.Journal.{Journal}
use Rattle.flush_journal.specs.declared.why.Why.{Why}
use Rattle.flush_journal.specs.declared.why.Why.TheVariants as why
use Rattle.service_core.specs.Journals.Begun.{IsUnbegun}
use Rattle.service_core.specs.Worlds.{State}
use Rattle.hall.specs.declared.desk.AtDesk.{Ghosts as AtDesk}
use Rattle.hall.specs.declared.journal.JournalDesk.{JournalDesk}
use Rattle.rest_session.specs.Kept.Doors.{AreDoorsKept, BeginsRun}
use Rattle.rest_session.specs.declared.halls.hiring.Report.{Report}
use Rattle.rest_session.specs.declared.kept.outcome.ClosedDoors.{ClosedDoors}
use Rattle.rest_session.specs.declared.kept.outcome.DoorsOutcome.{DoorsOutcome}
use Rattle.rest_session.specs.declared.kept.outcome.DoorsOutcome.TheVariants as outcome
use Rattle.rest_session.specs.declared.links.end.LinkEnd.{LinkEnd}
use Rattle.rest_session.specs.declared.links.end.LinkEnd.TheVariants as end
use Rattle.hsds_cli.specs.declared.closed.Closed.{Closed}
use Rattle.hsds_cli.specs.declared.status.Status.{Status}
use Rattle.hsds_cli.specs.declared.status.Status.TheVariants.{Done, Words, Configuration, ReadFault, WriteFault, DiskFault, NotAJournal, Refused, JournalExists, DoorFault, InputCut, UsedUp, Budget, NoMemory}
use Rattle.hsds_cli.specs.Closings.{HasFailedDoor, UsesUpBudget, of_doors}
use Rattle.hsds_cli.specs.Doors.{AreAskedOut, AreAskedUnlessFailed, Doors, SomeDoorFailed}
use Rattle.hsds_cli.specs.Openings.{HasNoRun, HasNoWorld, IsDiskAsBefore, SpellsSome, opening_status, refusal_status, status_after}
use Rattle.hsds_cli.specs.Sides.{ConfigFailed, IsUntouched, Sides, Spells, SpellsNone}

-- ---- the status

abbrev pub is_budget : LinkEnd → Bool
is_budget end.Closed = false
is_budget (end.Cut unread) = false
is_budget (end.Ended fault) = false
is_budget end.ReadFault = false
is_budget end.WriteFault = false
is_budget end.Budget = true
is_budget end.NoMemory = false

-- the door of some worker failed
abbrev pub some_failed : List Report → Bool
some_failed reports = list_any (λ r. r.door_failed) reports

-- some link had made as many requests as it may
abbrev pub some_budget : List Report → Bool
some_budget reports = list_any (λ r. list_any is_budget r.ends.items) reports

-- other ends of links don't matter
abbrev pub reports_status : List Report → Status
reports_status reports = if some_failed reports then DoorFault else if some_budget reports then Budget else Done

-- the status of what doors came to, and how they left the world
abbrev pub served_status : DoorsOutcome → Status
served_status (outcome.Unopened why) = opening_status why
served_status (outcome.Unbegun why) = refusal_status why
served_status outcome.Unserved = NoMemory
served_status (outcome.Served closed last) = status_after (reports_status closed.reports.items) last

abbrev pub doors_closed : DoorsOutcome → Option Closed
doors_closed (outcome.Unopened why) = None
doors_closed (outcome.Unbegun why) = None
doors_closed outcome.Unserved = None
doors_closed (outcome.Served closed last) = Some (of_doors closed)

-- ---- doors that were served

-- what a journal's desk tells
abbrev pub Desks : {D : Type 0} → Ghosts D → Type 1
Desks {D} met = AtDesk (JournalDesk D met) (Snapshot (Journal D met))

-- The links of the doors were served, by the configuration that the text spells, from the world on that the disk kept, in its next run, by one legal
-- history, of which was kept what was acknowledged; and once all had ended all was flushed. That ended with a status. Each door whose count of faults
-- stayed was asked until it had none left or had given so many links.
pub record ServesDoors {F L D : Type 0} (met : Ghosts D) (desks : Desks met) (links : ℕ) (sides : Sides) (doors : Doors F L) (before after : D) (closed : Option Closed) (status : Status) : Type 0 where
  pub config : Config
  pub spelled : Spells sides.text config
  pub journal : Journal D met
  pub first : State
  pub begun : BeginsRun met before journal first
  pub left : ClosedDoors
  pub is_closed : closed ≡ Some (of_doors left)
  pub last : Result ℕ Why
  pub served : AreDoorsKept met desks doors.tells config.tokens links journal first after doors.before doors.after left last
  pub asked : AreAskedUnlessFailed links doors
  pub ended : status_after (reports_status left.reports.items) last ≡ status

-- nothing was asked of a door, and nothing is closed
abbrev pub AreUnasked : {F L : Type 0} → Doors F L → Option Closed → Type 0
AreUnasked doors closed = (closed ≡ None) × (doors.after ≡ doors.before)

-- a run was begun, and nothing else was written
abbrev pub IsBegunAlone : {D : Type 0} (met : Ghosts D) → D → D → Type 0
IsBegunAlone {D} met before after = (journal : Journal D met) × (first : State) × BeginsRun met before journal first × (after ≡ disk_of journal)

-- a run was begun, and the disk was dropped with its journal
abbrev pub IsDropped : {D : Type 0} (met : Ghosts D) → D → Type 0
IsDropped {D} met before = (journal : Journal D met) × (first : State) × BeginsRun met before journal first

module _ {F L D : Type 0} (met : Ghosts D) (desks : Desks met) (links : ℕ) (sides : Sides) (doors : Doors F L) (before after : D) (closed : Option Closed) where
  abbrev pub Served : Status → Type 0
  Served status = ServesDoors met desks links sides doors before after closed status

  -- no worker's door failed, so also a door whose count of faults rose was asked to its end
  abbrev pub AreWell : Type 0
  AreWell = AreAskedOut links doors × (HasFailedDoor closed → ⊥)

  -- by the status
  abbrev pub IsServedBy : Status → Type 0
  IsServedBy Done = Served Done × AreWell × (UsesUpBudget closed → ⊥)
  IsServedBy Configuration = SpellsNone sides.text × AreUnasked doors closed × (after ≡ before)
  IsServedBy ReadFault = ConfigFailed sides × AreUnasked doors closed × (after ≡ before)
  IsServedBy DiskFault =
      Rose (met.faults before) (met.faults after)
      × ((SpellsSome sides × AreUnasked doors closed × IsDiskAsBefore met before after why.DiskFault) ⊎ Served DiskFault)
  IsServedBy NotAJournal =
      SpellsSome sides × AreUnasked doors closed × (met.honest → HasNoWorld (met.reads before)) × (met.honest → SameBytes met before after)
  IsServedBy DoorFault = Served DoorFault × SomeDoorFailed doors × HasFailedDoor closed
  IsServedBy UsedUp =
      (SpellsSome sides × AreUnasked doors closed
      × (((met.honest → HasNoRun (met.reads before)) × (met.honest → SameBytes met before after))
      ⊎ ((end : ℕ) × (need : ℕ) × (room : ℕ) × IsUnbegun met before after (why.JournalFull end need room))))
      ⊎ Served UsedUp
  IsServedBy Budget = Served Budget × AreWell × UsesUpBudget closed
  IsServedBy NoMemory =
      (AreUnasked doors closed × (IsDiskAsBefore met before after why.NoMemory ⊎ IsBegunAlone met before after)) ⊎ Served NoMemory
  IsServedBy Words = ⊥
  IsServedBy WriteFault = ⊥
  IsServedBy Refused = ⊥
  IsServedBy JournalExists = ⊥
  IsServedBy InputCut = ⊥

-- The input is not read, and nothing is printed. The disk is missing only where memory ran out behind the begin of the run, before anything was asked of a
-- door.
abbrev pub IsServe : {F L D : Type 0} (met : Ghosts D) → Desks met → ℕ → Sides → Doors F L → D → Option D → Option Closed → Status → Type 0
IsServe met desks links sides doors before (Some after) closed status = IsUntouched sides × IsServedBy met desks links sides doors before after closed status
IsServe met desks links sides doors before None closed status =
    IsUntouched sides × AreUnasked doors closed × IsDropped met before × (status ≡ NoMemory)
