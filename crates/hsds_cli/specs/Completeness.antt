-- When a command can end only as it should, or for want of memory.
--     Finds met command sides before      what the command needs stands there
--     IsCalm met sides before after      no count of faults rose
--     MeetsDoorFault command doors      a door had a fault
--     MeetsRoom met desks command sides doors before after closed      a keeping was refused for want of room
use Rattle.std.specs.Prelude.{◌≡◌, ◌≢◌, ◌⊎◌, ℕ, List, take, Option, Some, None, Err}
use Rattle.json_import.specs.Adoption.Faults.{adopt_fault}
use Rattle.edge_traits.specs.Causes.{Rose}
use Rattle.edge_traits.specs.declared.disk.Disk.{Ghosts}
use Rattle.command_words.specs.Commands.{Command, export, import, init, sample, serve, session, verify}
use Rattle.configuration.specs.declared.config.Config.{Config}
use Rattle.flush_journal.specs.Files.{magic}
use Rattle.flush_journal.specs.declared.why.Why.TheVariants as why
use Rattle.http_wire.specs.Messages.{RequestMessage}
use Rattle.json_export.specs.Documents.{doc}
use Rattle.documents.specs.Reader.Loads.{LoadsText}
use Rattle.documents.specs.declared.reader.loaded.Loaded.{Loaded}
use Rattle.service_core.specs.Journals.Opening.{IsOf}
use Rattle.service_core.specs.Journals.Begun.{IsRecovered, IsUnbegun}
use Rattle.rest_session.specs.Links.Links.{AllSpelled, spellings}
use Rattle.hsds_cli.specs.declared.closed.Closed.{Closed}
use Rattle.hsds_cli.specs.declared.status.Status.TheVariants.{UsedUp}
use Rattle.service_core.specs.Steps.{World}
use Rattle.hsds_cli.specs.Closings.{UsesUpBudget}
use Rattle.hsds_cli.specs.Doors.{Doors, SomeDoorFailed}
use Rattle.hsds_cli.specs.Exports.{IsWithheld}
use Rattle.hsds_cli.specs.Imports.{IsStopped}
use Rattle.hsds_cli.specs.Makings.{MakesNone}
use Rattle.hsds_cli.specs.Openings.{HasNoRun, HasNoWorld, Serves}
use Rattle.hsds_cli.specs.Serves.{Desks, ServesDoors}
use Rattle.hsds_cli.specs.Sides.{ConfigFailed, InputFailed, OutFailed, Sides, configured}

-- the text is told, and spells a configuration
pub record IsConfigured (text : Option (List ℕ)) : Type 0 where
  pub bytes : List ℕ
  pub told : text ≡ Some bytes
  pub config : Config
  pub spelled : configured bytes ≡ Some config

-- the input is told, and is whole messages
pub record IsWholeInput (left : Option (List ℕ)) : Type 0 where
  pub messages : List RequestMessage
  pub told : left ≡ Some (spellings messages)
  pub spelled : AllSpelled messages

-- the bytes are a journal that keeps a world, and a run is left
pub record IsOpenable (file : List ℕ) : Type 0 where
  pub world : HasNoWorld file → ⊥
  pub run : HasNoRun file → ⊥

-- the world that the journal keeps has a document at the path that may be given
abbrev pub HasDocument : List ℕ → List ℕ → Type 0
HasDocument file path = (w : World) → IsOf file (λ c. IsRecovered c.held w) → IsWithheld (doc w path) → ⊥

-- the input is told, its text holds a document, and nothing speaks against that as a new domain at the path of the world that the journal keeps
pub record HasAdoptable (file path : List ℕ) (left : Option (List ℕ)) : Type 0 where
  pub text : List ℕ
  pub told : left ≡ Some text
  pub document : Loaded
  pub loads : LoadsText text document
  pub free : (w : World) → IsOf file (λ c. IsRecovered c.held w) → (l : Loaded) → LoadsText text l → adopt_fault w.register path l ≡ None

abbrev pub Finds : {D : Type 0} (met : Ghosts D) → Command → Sides → D → Type 0
Finds met (init config journal lanes) sides before = IsConfigured sides.text × (take 8 (met.reads before) ≢ magic)
Finds met (session config journal) sides before = IsConfigured sides.text × IsOpenable (met.reads before) × IsWholeInput sides.left_before
Finds met (serve config journal listen workers links) sides before = IsConfigured sides.text × IsOpenable (met.reads before)
Finds met (export path journal) sides before = IsOpenable (met.reads before) × HasDocument (met.reads before) path
Finds met (import path journal owner) sides before = IsOpenable (met.reads before) × HasAdoptable (met.reads before) path sides.left_before
Finds met (sample n) sides before = Unit {0}
Finds met (verify journal) sides before = IsOpenable (met.reads before)

pub record IsCalm {D : Type 0} (met : Ghosts D) (sides : Sides) (before after : D) : Type 0 where
  pub config : ConfigFailed sides → ⊥
  pub input : InputFailed sides → ⊥
  pub out : OutFailed sides → ⊥
  pub disk : Rose (met.faults before) (met.faults after) → ⊥

abbrev pub MeetsDoorFault : {F L : Type 0} → Command → Doors F L → Type 0
MeetsDoorFault (serve config journal listen workers links) doors = SomeDoorFailed doors
MeetsDoorFault command doors = ⊥

abbrev pub MeetsRoom : {F L D : Type 0} (met : Ghosts D) → Desks met → Command → Sides → Doors F L → D → D → Option Closed → Type 0
MeetsRoom met desks (init config journal lanes) sides doors before after closed =
    (end : ℕ) × (need : ℕ) × (room : ℕ) × MakesNone met lanes sides before after (why.JournalFull end need room)
MeetsRoom met desks (session config journal) sides doors before after closed =
    ((end : ℕ) × (need : ℕ) × (room : ℕ) × IsUnbegun met before after (why.JournalFull end need room))
    ⊎ ((s : Serves met sides before after closed UsedUp) × (end : ℕ) × (need : ℕ) × (room : ℕ) × (s.last ≡ Err (why.JournalFull end need room)))
MeetsRoom met desks (serve config journal listen workers links) sides doors before after closed =
    ((end : ℕ) × (need : ℕ) × (room : ℕ) × IsUnbegun met before after (why.JournalFull end need room))
    ⊎ ((s : ServesDoors met desks links sides doors before after closed UsedUp)
    × (end : ℕ) × (need : ℕ) × (room : ℕ) × (s.last ≡ Err (why.JournalFull end need room)))
MeetsRoom met desks (export path journal) sides doors before after closed = ⊥
MeetsRoom met desks (import path journal owner) sides doors before after closed =
    (end : ℕ) × (need : ℕ) × (room : ℕ) × IsStopped met path owner sides before after (why.JournalFull end need room)
MeetsRoom met desks (sample n) sides doors before after closed = ⊥
MeetsRoom met desks (verify journal) sides doors before after closed = ⊥

-- the command finds what it needs, nothing fails, no link uses up its budget, and each keeping has room
pub record IsUndisturbed {F L D : Type 0} (met : Ghosts D) (desks : Desks met) (command : Command) (sides : Sides) (doors : Doors F L) (before after : D) (closed : Option Closed) : Type 0 where
  pub finds : Finds met command sides before
  pub calm : IsCalm met sides before after
  pub no_door_fault : MeetsDoorFault command doors → ⊥
  pub no_budget : UsesUpBudget closed → ⊥
  pub room : MeetsRoom met desks command sides doors before after closed → ⊥
