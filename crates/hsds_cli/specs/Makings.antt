-- What `init` does.
use Rattle.std.specs.Prelude.{◌≡◌, ◌≢◌, ℕ, List, take, length, ◌≤◌}
use Rattle.std.specs.Io.KnownBytes.{Appends, Keeps}
use Rattle.edge_traits.specs.Causes.{Rose}
use Rattle.edge_traits.specs.declared.disk.Disk.{Ghosts}
use Rattle.configuration.specs.declared.config.Config.{Config}
use Rattle.flush_journal.specs.Files.{magic}
use Rattle.flush_journal.specs.Firsts.{MakesFirst}
use Rattle.flush_journal.specs.Records.{Record}
use Rattle.flush_journal.specs.Refusals.{NoMagic}
use Rattle.flush_journal.specs.Unchanged.{SameBytes}
use Rattle.flush_journal.specs.declared.why.Why.{Why}
use Rattle.flush_journal.specs.declared.why.Why.TheVariants as why
use Rattle.service_core.specs.Journals.FirstJournals.{AreFirstRecords, IsFirstJournal, MayRefuseMaking}
use Rattle.hsds_cli.specs.declared.status.Status.{Status}
use Rattle.hsds_cli.specs.declared.status.Status.TheVariants.{Done, Words, Configuration, ReadFault, WriteFault, DiskFault, NotAJournal, Refused, JournalExists, DoorFault, InputCut, UsedUp, Budget, NoMemory}
use Rattle.hsds_cli.specs.Lines.{init_line}
use Rattle.hsds_cli.specs.Sides.{ConfigFailed, IsUntouched, OutFailed, Sides, Spells, SpellsNone}

-- no journal stood there; whatever a crash leaves is the journal of the configured folders and domains; and of its line so many bytes were printed
pub record Makes {D : Type 0} (met : Ghosts D) (lanes : ℕ) (sides : Sides) (before after : D) : Type 0 where
  pub config : Config
  pub spelled : Spells sides.text config
  pub none : NoMagic met.honest (met.reads before)
  pub images : met.honest → (image : List ℕ) → met.images after image → IsFirstJournal config.catalogue lanes image
  pub printed : ℕ
  pub left : Keeps sides.left_before sides.left_after
  pub appended : Appends sides.held_before sides.held_after (take printed (init_line lanes config.catalogue))

-- no journal was made, and nothing was printed. But for a fault of the disk its bytes are as before; behind one there may stand a journal
-- without a batch, or with the first one, or what was there with its first bytes torn.
pub record MakesNone {D : Type 0} (met : Ghosts D) (lanes : ℕ) (sides : Sides) (before after : D) (refusal : Why) : Type 0 where
  pub config : Config
  pub spelled : Spells sides.text config
  pub cause : MayRefuseMaking config.catalogue met.honest (met.reads before) (met.most before) (met.faults before) (met.faults after) refusal
  pub untouched : IsUntouched sides
  pub found : met.honest → take 8 (met.reads before) ≡ magic → SameBytes met before after
  pub refused : met.honest → refusal ≢ why.DiskFault → SameBytes met before after
  pub stands : met.honest → refusal ≡ why.DiskFault → (rs : List Record) × AreFirstRecords config.catalogue rs × MakesFirst met lanes rs before after

-- nothing was read or written at all
abbrev pub IsAsBefore : {D : Type 0} → Sides → D → D → Type 0
IsAsBefore sides before after = IsUntouched sides × (after ≡ before)

abbrev pub IsInit : {D : Type 0} (met : Ghosts D) → ℕ → Sides → D → D → Status → Type 0
IsInit met lanes sides before after Done = (m : Makes met lanes sides before after) × (length (init_line lanes m.config.catalogue) ≤ m.printed)
IsInit met lanes sides before after Configuration = SpellsNone sides.text × IsAsBefore sides before after
IsInit met lanes sides before after ReadFault = ConfigFailed sides × IsAsBefore sides before after
IsInit met lanes sides before after WriteFault = OutFailed sides × Makes met lanes sides before after
IsInit met lanes sides before after DiskFault = Rose (met.faults before) (met.faults after) × MakesNone met lanes sides before after why.DiskFault
IsInit met lanes sides before after JournalExists = (met.honest → take 8 (met.reads before) ≡ magic) × MakesNone met lanes sides before after why.Exists
IsInit met lanes sides before after UsedUp = (end : ℕ) × (need : ℕ) × (room : ℕ) × MakesNone met lanes sides before after (why.JournalFull end need room)
IsInit met lanes sides before after NoMemory = IsAsBefore sides before after
IsInit met lanes sides before after Words = ⊥
IsInit met lanes sides before after NotAJournal = ⊥
IsInit met lanes sides before after Refused = ⊥
IsInit met lanes sides before after DoorFault = ⊥
IsInit met lanes sides before after InputCut = ⊥
IsInit met lanes sides before after Budget = ⊥

-- the status where no journal was made
abbrev pub making_status : Why → Status
making_status why.DiskFault = DiskFault
making_status (why.JournalFull end need room) = UsedUp
making_status why.Exists = JournalExists
making_status (why.NotAJournal at) = NoMemory
making_status why.NoMemory = NoMemory
