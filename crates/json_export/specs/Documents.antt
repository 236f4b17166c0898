-- The document of a domain of a world.
use Rattle.std.specs.Prelude.{◌≡◌, ◌^◌, ◌<◌, ◌≤◌, ℕ, List, length, Option, Some, None, option_map, Result, Ok, Err}
use Rattle.std.specs.FinMap.{entries}
use Rattle.serde_json.specs.Data.{Data}
use Rattle.serde_json.specs.Written.{compact_text}
use Rattle.domains.specs.Contents.{class_at}
use Rattle.domains.specs.declared.classes.NodeClass.{NodeClass}
use Rattle.domains.specs.declared.classes.NodeClass.TheVariants.{Folder, Domain}
use Rattle.documents.specs.Domains.Documents.{document_tree}
use Rattle.documents.specs.Domains.Lengths.{least_values}
use Rattle.documents.specs.Domains.Printed.{ReadsAs}
use Rattle.documents.specs.declared.domains.home.Home.{Home}
use Rattle.service_core.specs.Steps.{World}
use Rattle.json_export.specs.declared.faults.ExportFault.{ExportFault}
use Rattle.json_export.specs.declared.faults.ExportFault.TheVariants.{NoDomain, TooLarge, NoMemory}

-- the domain that stands at a path, where one does
abbrev pub home_of : Option NodeClass → Option Home
home_of None = None
home_of (Some Folder) = None
home_of (Some (Domain number root)) = Some (record { number = number; root = root })

abbrev pub home_at : World → List ℕ → Option Home
home_at w path = home_of (class_at w.register.catalogue path)

-- its document: none where no domain is at the path
abbrev pub doc : World → List ℕ → Option Data
doc w path = option_map (document_tree w.objects) (home_at w path)

-- the compact text of the document has more bytes than a document may have
abbrev pub IsTooLong : Option Data → Type 0
IsTooLong None = ⊥
IsTooLong (Some tree) = 2 ^ 27 < length (compact_text tree)

-- the shapes of the datasets of a domain alone ask for a longer text
abbrev pub CannotFit : World → Option Home → Type 0
CannotFit w None = ⊥
CannotFit w (Some h) = 2 ^ 27 < least_values h (entries w.objects)

-- this is the compact text of the document
abbrev pub IsTextOf : List ℕ → Option Data → Type 0
IsTextOf text None = ⊥
IsTextOf text (Some tree) = text ≡ compact_text tree

-- this is UTF-8, and is read as the document
abbrev pub IsReadAs : List ℕ → Option Data → Type 0
IsReadAs text found = (tree : Data) → found ≡ Some tree → ReadsAs text tree

-- what is answered where there is a document, and where there is none; memory may run out
abbrev pub Answers : {T : Type 0} → (T → Data → Type 0) → Result T ExportFault → Option Data → Type 0
Answers Shows (Ok x) None = ⊥
Answers Shows (Ok x) (Some tree) = Shows x tree × (length (compact_text tree) ≤ 2 ^ 27)
Answers Shows (Err NoDomain) found = found ≡ None
Answers Shows (Err TooLarge) found = IsTooLong found
Answers Shows (Err NoMemory) None = ⊥
Answers Shows (Err NoMemory) (Some tree) = Unit {0}
