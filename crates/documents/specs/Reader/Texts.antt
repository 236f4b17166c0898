-- The text of a document, and its tree.
use Rattle.std.specs.Prelude.{◌≡◌, ◌⊎◌, ℕ, List, [], Result, Ok, Err, length, nat_le, if◌then◌else◌}
use Rattle.std.specs.Option.{ok_or}
use Rattle.serde_json.specs.Data.{Data}
use Rattle.serde_json.specs.Errors.{IsMemory}
use Rattle.serde_json.specs.declared.error.Error.{Error}
use Rattle.documents.specs.Parts.Faults.{Fault, RefusesWhole, Tells, fault}
use Rattle.documents.specs.declared.parts.faults.DocCause.TheVariants.{TooLong, BadJson}
use Rattle.documents.specs.declared.parts.faults.DocFault.{DocFault}
use Rattle.documents.specs.declared.parts.faults.DocFault.TheVariants.{NoMemory}
use Rattle.json_trees.specs.Trees.{tree_in}

-- the most bytes of a document
abbrev pub most_bytes : ℕ
most_bytes = 134217728

abbrev pub json_at : List ℕ → Result Data Fault
json_at bytes = ok_or (tree_in bytes) (fault [] BadJson)

-- the tree of a text
abbrev pub text_tree : List ℕ → Result Data Fault
text_tree bytes = if nat_le (length bytes) most_bytes then json_at bytes else Err (fault [] TooLong)

-- it is told that the text is too long
abbrev pub IsToldLong : {A : Type 0} → Result A DocFault → Type 0
IsToldLong (Ok x) = ⊥
IsToldLong (Err e) = RefusesWhole TooLong e

-- what is told of an error of `serde_json`: want of memory where it is that, and else that the text is no JSON
abbrev pub IsJsonFault : Error → DocFault → Type 0
IsJsonFault error e = ((e ≡ NoMemory) × IsMemory error) ⊎ (RefusesWhole BadJson e × Tells e (fault [] BadJson) × ¬ (IsMemory error))
