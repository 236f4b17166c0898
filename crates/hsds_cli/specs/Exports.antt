-- What `export` does with the journal that stands on a disk.
--     document_line tree      the text of a document, and a line feed
--     IsGiven, IsWithheld found      the document may be given, and is read back, or there is none that may
--     AreLoaded world path tree      what is printed of it is loaded as what the domain holds
--     Exports, ExportsNone      the document of the world that the journal keeps was printed, or refused
--     IsExported met path ..      what `export` does, by its status
use Rattle.std.specs.Prelude.{◌≡◌, ◌⊎◌, ◌^◌, ◌≤◌, ⊤, ℕ, List, [], ◌∷◌, ◌++◌, take, length, Option, Some, None}
use Rattle.std.specs.Io.KnownBytes.{Appends, Keeps}
use Rattle.serde_json.specs.Data.{Data}
use Rattle.serde_json.specs.Written.{compact_text}
use Rattle.json_import.specs.RoundTrips.Loaded.{loaded_from}
use Rattle.documents.specs.Domains.Printed.{ReadsAs}
use Rattle.documents.specs.declared.domains.home.Home.{Home}
use Rattle.edge_traits.specs.Causes.{Rose}
use Rattle.edge_traits.specs.declared.disk.Disk.{Ghosts}
use Rattle.json_export.specs.Documents.{IsTooLong, doc, home_at}
use Rattle.documents.specs.Reader.Loads.{LoadsText}
use Rattle.service_core.specs.Journals.Opening.{IsOf}
use Rattle.service_core.specs.Journals.Begun.{IsRecovered}
use Rattle.service_core.specs.Steps.{World}
use Rattle.hsds_cli.specs.declared.status.Status.{Status}
use Rattle.hsds_cli.specs.declared.status.Status.TheVariants.{Done, Words, Configuration, ReadFault, WriteFault, DiskFault, NotAJournal, Refused, JournalExists, DoorFault, InputCut, UsedUp, Budget, NoMemory}
use Rattle.hsds_cli.specs.Lines.{IsPrinted}
use Rattle.hsds_cli.specs.Openings.{HasNoRun, HasNoWorld}
use Rattle.hsds_cli.specs.Sides.{IsUntouched, OutFailed, Sides}

-- the compact text of a document, and a line feed
abbrev pub document_line : Data → List ℕ
document_line tree = compact_text tree ++ 10 ∷ []

-- this is the document; its text isn't too long, and is read as the document
pub record IsGiven (found : Option Data) (tree : Data) : Type 0 where
  pub is : found ≡ Some tree
  pub short : length (compact_text tree) ≤ 2 ^ 27
  pub reads : ReadsAs (compact_text tree) tree

-- its text, and its line where that isn't too long, is loaded as what the domain at the path holds
abbrev pub AreLoaded : World → List ℕ → Data → Type 0
AreLoaded world path tree =
    (home : Home) → home_at world path ≡ Some home
    → LoadsText (compact_text tree) (loaded_from world.objects home)
    × (length (document_line tree) ≤ 2 ^ 27 → LoadsText (document_line tree) (loaded_from world.objects home))

-- there is no document, or its text is too long
abbrev pub IsWithheld : Option Data → Type 0
IsWithheld found = (found ≡ None) ⊎ IsTooLong found

-- of the line of a document at the path, in the world that the journal keeps, so many bytes were printed
pub record Exports {D : Type 0} (met : Ghosts D) (path : List ℕ) (sides : Sides) (before : D) : Type 0 where
  pub world : World
  pub recovered : met.honest → IsOf (met.reads before) (λ c. IsRecovered c.held world)
  pub tree : Data
  pub given : IsGiven (doc world path) tree
  pub loads : met.honest → AreLoaded world path tree
  pub printed : ℕ
  pub left : Keeps sides.left_before sides.left_after
  pub appended : Appends sides.held_before sides.held_after (take printed (document_line tree))

-- the world that the journal keeps has no document at the path that may be given, and nothing was printed
pub record ExportsNone {D : Type 0} (met : Ghosts D) (path : List ℕ) (sides : Sides) (before : D) : Type 0 where
  pub world : World
  pub recovered : met.honest → IsOf (met.reads before) (λ c. IsRecovered c.held world)
  pub withheld : IsWithheld (doc world path)
  pub untouched : IsUntouched sides

abbrev pub IsExported : {D : Type 0} (met : Ghosts D) → List ℕ → Sides → D → D → Status → Type 0
IsExported met path sides before after Done = (e : Exports met path sides before) × (length (document_line e.tree) ≤ e.printed)
IsExported met path sides before after WriteFault = OutFailed sides × Exports met path sides before
IsExported met path sides before after Refused = ExportsNone met path sides before
IsExported met path sides before after DiskFault = Rose (met.faults before) (met.faults after) × IsUntouched sides
IsExported met path sides before after NotAJournal = (met.honest → HasNoWorld (met.reads before)) × IsUntouched sides
IsExported met path sides before after UsedUp = (met.honest → HasNoRun (met.reads before)) × IsUntouched sides
IsExported met path sides before after NoMemory = IsUntouched sides
IsExported met path sides before after Words = ⊥
IsExported met path sides before after Configuration = ⊥
IsExported met path sides before after ReadFault = ⊥
IsExported met path sides before after JournalExists = ⊥
IsExported met path sides before after DoorFault = ⊥
IsExported met path sides before after InputCut = ⊥
IsExported met path sides before after Budget = ⊥

-- ---- what the calls below say

-- this is the line of the document
abbrev pub IsLineOf : Option Data → List ℕ → Type 0
IsLineOf found line = (tree : Data) × IsGiven found tree × (line ≡ document_line tree)

-- why there is no line, as a status
abbrev pub IsLineRefused : Option Data → Status → Type 0
IsLineRefused found Refused = IsWithheld found
IsLineRefused found NoMemory = ⊤
IsLineRefused found status = ⊥

-- the line was printed, or the output had a fault and has a front of it; or there is none, and nothing was printed
abbrev pub IsDocumentTold : Option Data → Option (List ℕ) → Option (List ℕ) → ℕ → ℕ → Status → Type 0
IsDocumentTold found before after faults_before faults_after Refused = IsWithheld found × Keeps before after
IsDocumentTold found before after faults_before faults_after NoMemory = Keeps before after
IsDocumentTold found before after faults_before faults_after status =
    (tree : Data) × IsGiven found tree × IsPrinted (document_line tree) before after faults_before faults_after status
