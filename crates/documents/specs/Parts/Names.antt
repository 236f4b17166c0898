-- Names of attributes and titles of links, of which none stands twice in its list.
use Rattle.std.specs.Prelude.{ℕ, List, Option, Some, None, Result, Ok, Err, if◌then◌else◌}
use Rattle.std.specs.FinMap.{FinMap, contains_key}
use Rattle.json_trees.specs.Faults.{◌>>=◌}
use Rattle.containers.specs.TextMaps.Keyed.{text_order}
use Rattle.object_ids.specs.Names.{is_name, has_no_slash}
use Rattle.attributes.specs.AttributeMaps.{longest_name}
use Rattle.groups_links.specs.Titles.{most_of_title}
use Rattle.documents.specs.Parts.Faults.{Fault, fault}
use Rattle.documents.specs.declared.parts.faults.DocCause.TheVariants.{BadName}

-- a name of at most so many bytes
abbrev pub name_in : ℕ → List ℕ → Option (List ℕ) → Result (List ℕ) Fault
name_in most path None = Err (fault path BadName)
name_in most path (Some text) = if is_name most text then Ok text else Err (fault path BadName)

-- a title, which is a name without a slash
abbrev pub title_in : List ℕ → Option (List ℕ) → Result (List ℕ) Fault
title_in path text = name_in most_of_title path text >>= λ (title : List ℕ). if has_no_slash title then Ok title else Err (fault path BadName)

-- no entry before it has the name
abbrev pub unless_there : {X : Type 0} → List ℕ → FinMap text_order X → List ℕ → Result (List ℕ) Fault
unless_there path m name = if contains_key m name then Err (fault path BadName) else Ok name

abbrev pub new_name : {X : Type 0} → List ℕ → FinMap text_order X → Option (List ℕ) → Result (List ℕ) Fault
new_name path m text = name_in longest_name path text >>= λ (name : List ℕ). unless_there path m name

abbrev pub new_title : {X : Type 0} → List ℕ → FinMap text_order X → Option (List ℕ) → Result (List ℕ) Fault
new_title path m text = title_in path text >>= λ (title : List ℕ). unless_there path m title
