-- What the parts of an import say.
--     IsUnadopted .. e      why no document was adopted
--     IsKeptFrom j s after last      a world was kept, or refused to be
--     CameToFrom j s after .. outcome      what an import came to, from the begin of the run on
use Rattle.std.specs.Prelude.{◌≡◌, ⊤, ℕ, List, [], Option, Result, Ok, Err}
use Rattle.service_core.specs.Described.Told.{AreWhole}
use Rattle.json_import.specs.Adoption.Adopted.{IsReadBack, counts_of}
use Rattle.json_import.specs.declared.adoption.counts.Counts.{Counts}
use Rattle.json_import.specs.declared.adoption.faults.AdoptFault.{AdoptFault}
use Rattle.json_import.specs.declared.adoption.faults.AdoptFault.TheVariants as adopt
use Rattle.documents.specs.declared.parts.faults.DocFault.{DocFault}
use Rattle.documents.specs.declared.parts.faults.DocFault.TheVariants as doc
use Rattle.edge_traits.specs.Causes.{Rose}
use Rattle.edge_traits.specs.declared.disk.Disk.{Ghosts}
use Rattle.flush_journal.specs.Batches.{records}
use Rattle.flush_journal.specs.Standing.{disk_of}
use Rattle.flush_journal.specs.declared.journal.Journal.{Journal}
use Rattle.flush_journal.specs.declared.why.Why.{Why}
use Rattle.flush_journal.specs.declared.keepings.keeping.Keeping.{Keeping}
use Rattle.documents.specs.declared.reader.loaded.Loaded.{Loaded}
use Rattle.service_core.specs.KeptWorlds.{KeepsWorld}
use Rattle.service_core.specs.Records.{WorldStillSays}
use Rattle.service_core.specs.Steps.{World}
use Rattle.service_core.specs.Worlds.{State, seen}
use Rattle.service_core.specs.declared.journals.beginning.BeginFault.{BeginFault}
use Rattle.service_core.specs.declared.journals.beginning.BeginFault.TheVariants as begin
use Rattle.edge_traits.specs.SourceTexts.Texts.{IsTaken}
use Rattle.edge_traits.specs.declared.source_texts.reading.TextFault.{TextFault}
use Rattle.edge_traits.specs.declared.source_texts.reading.TextFault.TheVariants as text
use Rattle.json_import.specs.Kept.Documents.{IsAccepted, IsNoDocument, IsRefused, adopted}
use Rattle.json_import.specs.declared.kept.outcome.Outcome.{Outcome}
use Rattle.json_import.specs.declared.kept.outcome.Outcome.TheVariants.{Unopened, Unbegun, Unread, Refused, NoMemory, Unkept, Adopted}
use Rattle.json_import.specs.declared.kept.reading.Unadopted.{Unadopted}
use Rattle.json_import.specs.declared.kept.reading.Unadopted.TheVariants as unadopted

-- ---- a run that was not begun

abbrev pub of_begin : BeginFault → Outcome
of_begin (begin.Unopened why) = Unopened why
of_begin (begin.Unbegun why) = Unbegun why

-- ---- a document

abbrev pub of_text : TextFault → Unadopted
of_text text.TooLong = unadopted.Refused
of_text text.ReadFault = unadopted.Unread
of_text text.NoMemory = unadopted.NoMemory

abbrev pub of_document : DocFault → Unadopted
of_document doc.NoMemory = unadopted.NoMemory
of_document (doc.Refused path cause) = unadopted.Refused

abbrev pub of_adoption : AdoptFault → Unadopted
of_adoption adopt.NoMemory = unadopted.NoMemory
of_adoption fault = unadopted.Refused

abbrev pub outcome_of : Unadopted → Outcome
outcome_of unadopted.Unread = Unread
outcome_of unadopted.Refused = Refused
outcome_of unadopted.NoMemory = NoMemory

-- why no document was read, and why none was adopted
abbrev pub IsUnloaded : Option (List ℕ) → Option (List ℕ) → (before now : ℕ) → Unadopted → Type 0
IsUnloaded lb la before now unadopted.Unread = Rose before now
IsUnloaded lb la before now unadopted.Refused = IsNoDocument lb la
IsUnloaded lb la before now unadopted.NoMemory = ⊤

abbrev pub IsUnadopted : Option (List ℕ) → Option (List ℕ) → (before now : ℕ) → World → List ℕ → Unadopted → Type 0
IsUnadopted lb la before now w path unadopted.Unread = Rose before now
IsUnadopted lb la before now w path unadopted.Refused = IsRefused lb la w path
IsUnadopted lb la before now w path unadopted.NoMemory = ⊤

-- a document was adopted
pub record IsAdopted (lb la : Option (List ℕ)) (w : World) (path owner : List ℕ) (counts : Counts) (new : World) : Type 0 where
  pub loaded : Loaded
  pub accepted : IsAccepted lb la w path loaded
  pub counts_are : counts ≡ counts_of loaded
  pub is : new ≡ adopted w path owner loaded
  pub document : IsReadBack w.register loaded new path

-- ---- a keeping

pub record IsKeptFrom {D : Type 0} {met : Ghosts D} (j : Journal D met) (s : State) (after : D) (last : Result ℕ Why) : Type 0 where
  pub begun : Keeping D met
  pub journal : begun.journal ≡ j
  pub building : records begun.building ≡ []
  pub none_kept : begun.kept ≡ 0
  pub objects : AreWhole (seen s).objects
  pub ended : Keeping D met
  pub kept : State
  pub keeps : KeepsWorld begun s ended kept last
  pub disk : after ≡ disk_of ended.journal

abbrev pub kept_outcome : Result ℕ Why → Counts → Outcome
kept_outcome (Ok n) counts = Adopted counts
kept_outcome (Err why) counts = Unkept why

-- ---- an import, from the begin of its run on

pub record IsAdoptedFrom {D : Type 0} {met : Ghosts D} (j : Journal D met) (s : State) (after : D) (path owner : List ℕ) (lb la : Option (List ℕ)) (counts : Counts) (last : Result ℕ Why) : Type 0 where
  pub state : State
  pub adopted : IsAdopted lb la (seen s) path owner counts (seen state)
  pub says : WorldStillSays s state
  pub keeps : IsKeptFrom j state after last

abbrev pub CameToFrom : {D : Type 0} {met : Ghosts D} → Journal D met → State → D → (path owner : List ℕ) → (lb la : Option (List ℕ)) → Outcome → Type 0
CameToFrom j s after path owner lb la (Unopened why) = ⊥
CameToFrom j s after path owner lb la (Unbegun why) = ⊥
CameToFrom j s after path owner lb la Unread = (after ≡ disk_of j) × IsTaken lb la
CameToFrom j s after path owner lb la Refused = (after ≡ disk_of j) × IsRefused lb la (seen s) path
CameToFrom j s after path owner lb la NoMemory = (after ≡ disk_of j) × IsTaken lb la
CameToFrom j s after path owner lb la (Unkept why) = (counts : Counts) × IsAdoptedFrom j s after path owner lb la counts (Err why)
CameToFrom j s after path owner lb la (Adopted counts) = (n : ℕ) × IsAdoptedFrom j s after path owner lb la counts (Ok n)
