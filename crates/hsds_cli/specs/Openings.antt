-- What `verify` and `session` do with the journal that stands on a disk.
use Rattle.std.specs.Prelude.{◌≡◌, ◌⊎◌, ℕ, List, [], ◌∷◌, take, length, ◌≤◌, Option, Some, None, Result, Ok, Err}
use Rattle.std.specs.Io.KnownBytes.{Appends, Keeps}
use Rattle.edge_traits.specs.Causes.{Rose}
use Rattle.edge_traits.specs.declared.disk.Disk.{Ghosts}
use Rattle.configuration.specs.declared.config.Config.{Config}
use Rattle.flush_journal.specs.Files.{Content, content}
use Rattle.flush_journal.specs.Unchanged.{SameBytes}
use Rattle.flush_journal.specs.declared.report.Report.{Report}
use Rattle.flush_journal.specs.declared.why.Why.{Why}
use Rattle.flush_journal.specs.declared.why.Why.TheVariants as why
use Rattle.service_core.specs.Journals.Opening.{IsOf, IsToldFault}
use Rattle.service_core.specs.declared.journals.faults.OpenFault.{OpenFault}
use Rattle.service_core.specs.declared.journals.faults.OpenFault.TheVariants as fault
use Rattle.rest_session.specs.Kept.Sessions.{HoldsHeld, IsLinkKept, IsServedFrom}
use Rattle.flush_journal.specs.Moments.{CrashLeavesSince}
use Rattle.service_core.specs.Journals.Begun.{IsUnbegun}
use Rattle.rest_session.specs.declared.kept.outcome.Closed.{Closed as LinkClosed}
use Rattle.rest_session.specs.declared.kept.outcome.Outcome.{Outcome}
use Rattle.rest_session.specs.declared.kept.outcome.Outcome.TheVariants as outcome
use Rattle.rest_session.specs.Links.Links.{HasCauses}
use Rattle.rest_session.specs.declared.links.end.LinkEnd.{LinkEnd}
use Rattle.rest_session.specs.declared.links.end.LinkEnd.TheVariants as end
use Rattle.register.specs.Kept.{IsUsedUp}
use Rattle.rest_session.specs.Sessions.{Served}
use Rattle.service_core.specs.Records.{DescribesWorld}
use Rattle.service_core.specs.Steps.{World}
use Rattle.hsds_cli.specs.declared.closed.Closed.{Closed}
use Rattle.hsds_cli.specs.declared.status.Status.{Status}
use Rattle.hsds_cli.specs.declared.status.Status.TheVariants.{Done, Words, Configuration, ReadFault, WriteFault, DiskFault, NotAJournal, Refused, JournalExists, DoorFault, InputCut, UsedUp, Budget, NoMemory}
use Rattle.hsds_cli.specs.Closings.{of_link}
use Rattle.hsds_cli.specs.Lines.{verify_line}
use Rattle.hsds_cli.specs.Sides.{ConfigFailed, InputFailed, IsUntouched, OutFailed, Sides, Spells, SpellsNone}

-- the bytes are no journal, or a record of it is missing or can't stand; where the register's can, that no run is left is told before
abbrev pub HasNoWorld : List ℕ → Type 0
HasNoWorld file = ((at : ℕ) × (content file ≡ Err at)) ⊎ IsOf file (λ c. (key : List ℕ) × IsToldFault c key)

-- the last run is kept
abbrev pub HasNoRun : List ℕ → Type 0
HasNoRun file = IsOf file (λ c. IsUsedUp c.held)

-- ---- verify

-- what a journal's numbers are, and its run
pub record IsReport (file : List ℕ) (r : Report) (run : ℕ) : Type 0 where
  pub stands_for : Content
  pub is_journal : content file ≡ Ok stands_for
  pub version : r.version ≡ stands_for.version
  pub lanes : r.lanes ≡ stands_for.lanes
  pub batches : r.batches ≡ stands_for.batches
  pub end : r.end ≡ stands_for.end
  pub world : World
  pub described : DescribesWorld stands_for.held run world

-- of the line on the journal so many bytes were printed
pub record Reports {D : Type 0} (met : Ghosts D) (sides : Sides) (before : D) : Type 0 where
  pub numbers : Report
  pub run : ℕ
  pub told : met.honest → IsReport (met.reads before) numbers run
  pub printed : ℕ
  pub left : Keeps sides.left_before sides.left_after
  pub appended : Appends sides.held_before sides.held_after (take printed (verify_line numbers run))

abbrev pub IsVerified : {D : Type 0} (met : Ghosts D) → Sides → D → D → Status → Type 0
IsVerified met sides before after Done = (r : Reports met sides before) × (length (verify_line r.numbers r.run) ≤ r.printed)
IsVerified met sides before after WriteFault = OutFailed sides × Reports met sides before
IsVerified met sides before after DiskFault = Rose (met.faults before) (met.faults after) × IsUntouched sides
IsVerified met sides before after NotAJournal = (met.honest → HasNoWorld (met.reads before)) × IsUntouched sides
IsVerified met sides before after UsedUp = (met.honest → HasNoRun (met.reads before)) × IsUntouched sides
IsVerified met sides before after NoMemory = IsUntouched sides
IsVerified met sides before after Words = ⊥
IsVerified met sides before after Configuration = ⊥
IsVerified met sides before after ReadFault = ⊥
IsVerified met sides before after Refused = ⊥
IsVerified met sides before after JournalExists = ⊥
IsVerified met sides before after DoorFault = ⊥
IsVerified met sides before after InputCut = ⊥
IsVerified met sides before after Budget = ⊥

-- ---- session

-- the status of a session whose link ended so, where all is kept
abbrev pub status_of : LinkEnd → Status
status_of end.Closed = Done
status_of (end.Cut unread) = InputCut
status_of (end.Ended fault) = InputCut
status_of end.ReadFault = ReadFault
status_of end.WriteFault = WriteFault
status_of end.Budget = Budget
status_of end.NoMemory = NoMemory

abbrev pub refusal_status : Why → Status
refusal_status why.DiskFault = DiskFault
refusal_status (why.JournalFull end need room) = UsedUp
refusal_status (why.NotAJournal at) = NoMemory
refusal_status why.Exists = NoMemory
refusal_status why.NoMemory = NoMemory

-- the status of links that ended with one, and whose last keeping was answered so
abbrev pub status_after : Status → Result ℕ Why → Status
status_after ended (Ok kept) = ended
status_after ended (Err why) = refusal_status why

-- the status where no world was opened
abbrev pub opening_status : OpenFault → Status
opening_status fault.DiskFault = DiskFault
opening_status (fault.NotAJournal at) = NotAJournal
opening_status (fault.BadRecord key) = NotAJournal
opening_status fault.RunsUsed = UsedUp
opening_status fault.NoMemory = NoMemory

-- the status of what a session came to, and how its link left the world
abbrev pub status_by : Outcome → Status
status_by (outcome.Unopened why) = opening_status why
status_by (outcome.Unbegun why) = refusal_status why
status_by (outcome.Served closed last) = status_after (status_of closed.end) last

abbrev pub closed_by : Outcome → Option Closed
closed_by (outcome.Unopened why) = None
closed_by (outcome.Unbegun why) = None
closed_by (outcome.Served closed last) = Some (of_link closed)

-- The input was served as one link, by the configuration that the text spells, from the world on that the disk kept, at the begin of its
-- next run; and that ended with a status. On a disk that keeps its rule, whatever a crash left since the begin holds the world that the disk
-- kept, or one that stood while the link was served; a crash before anything was written might have left an image of before.
pub record Serves {D : Type 0} (met : Ghosts D) (sides : Sides) (before after : D) (closed : Option Closed) (status : Status) : Type 0 where
  pub config : Config
  pub spelled : Spells sides.text config
  pub first : Served met
  pub tokens : first.tokens ≡ config.tokens
  pub begun : met.honest → IsOf (met.reads before) (λ c. IsServedFrom c first)
  pub link_closed : LinkClosed
  pub is_closed : closed ≡ Some (of_link link_closed)
  pub last : Result ℕ Why
  pub served : IsLinkKept first after sides.left_before sides.left_after sides.held_before sides.held_after link_closed last
  pub crash : met.honest → IsOf (met.reads before) (λ c. CrashLeavesSince met before after (HoldsHeld c.held first served.final served.taken served.sent))
  pub causes : HasCauses sides.input_before sides.input_after sides.out_before sides.out_after link_closed.end
  pub ended : status_after (status_of link_closed.end) last ≡ status

-- nothing was taken from the input or written to the output, and nothing is closed
abbrev pub IsUnserved : Sides → Option Closed → Type 0
IsUnserved sides closed = (closed ≡ None) × IsUntouched sides

-- the text spells some configuration
abbrev pub SpellsSome : Sides → Type 0
SpellsSome sides = (config : Config) × Spells sides.text config

-- the disk is as it was, or the record of a run was refused so
abbrev pub IsDiskAsBefore : {D : Type 0} (met : Ghosts D) → D → D → Why → Type 0
IsDiskAsBefore met before after refusal = (met.honest → SameBytes met before after) ⊎ IsUnbegun met before after refusal

abbrev pub IsSession : {D : Type 0} (met : Ghosts D) → Sides → D → D → Option Closed → Status → Type 0
IsSession met sides before after closed Done = Serves met sides before after closed Done
IsSession met sides before after closed Configuration = SpellsNone sides.text × IsUnserved sides closed × (after ≡ before)
IsSession met sides before after closed ReadFault =
    (ConfigFailed sides × IsUnserved sides closed × (after ≡ before)) ⊎ (InputFailed sides × Serves met sides before after closed ReadFault)
IsSession met sides before after closed WriteFault = OutFailed sides × Serves met sides before after closed WriteFault
IsSession met sides before after closed DiskFault =
    Rose (met.faults before) (met.faults after)
    × ((SpellsSome sides × IsUnserved sides closed × IsDiskAsBefore met before after why.DiskFault) ⊎ Serves met sides before after closed DiskFault)
IsSession met sides before after closed NotAJournal =
    SpellsSome sides × IsUnserved sides closed × (met.honest → HasNoWorld (met.reads before)) × (met.honest → SameBytes met before after)
IsSession met sides before after closed InputCut = Serves met sides before after closed InputCut
IsSession met sides before after closed UsedUp =
    (SpellsSome sides × IsUnserved sides closed
    × (((met.honest → HasNoRun (met.reads before)) × (met.honest → SameBytes met before after))
    ⊎ ((end : ℕ) × (need : ℕ) × (room : ℕ) × IsUnbegun met before after (why.JournalFull end need room))))
    ⊎ Serves met sides before after closed UsedUp
IsSession met sides before after closed Budget = Serves met sides before after closed Budget
IsSession met sides before after closed NoMemory = (IsUnserved sides closed × IsDiskAsBefore met before after why.NoMemory) ⊎ Serves met sides before after closed NoMemory
IsSession met sides before after closed Words = ⊥
IsSession met sides before after closed Refused = ⊥
IsSession met sides before after closed JournalExists = ⊥
IsSession met sides before after closed DoorFault = ⊥
