-- The lists of an object's attributes and of a group's links, as trees spell them.
use Rattle.std.specs.Prelude.{ℕ, List, [], ◌∷◌, not, ◌==◌, Option, Some, None, is_some, option_map, option_and_then, Result, Ok, Err, if◌then◌else◌, codes}
use Rattle.std.specs.FinMap.{FinMap, empty, insert}
use Rattle.std.specs.List.{list_all}
use Rattle.serde_json.specs.Data.{Data}
use Rattle.json_trees.specs.Trees.{list_in, text_at}
use Rattle.containers.specs.TextMaps.Keyed.{text_order}
use Rattle.object_ids.specs.Names.{is_name}
use Rattle.object_ids.specs.Puts.{put_fault}
use Rattle.hdf_values.specs.Attributes.{Content, attribute_of}
use Rattle.attributes.specs.AttributeMaps.{longest_name, most_attributes}
use Rattle.groups_links.specs.GroupLinks.{most_links, Titles}
use Rattle.groups_links.specs.Targets.{link_in}
use Rattle.groups_links.specs.Titles.{most_of_title}
use Rattle.groups_links.specs.declared.target.LinkTo.{LinkTo}
use Rattle.object_records.specs.Entries.{Names}

-- what was read, where there is no fault
abbrev pub no_fault : {A E : Type 0} → Result A E → Option A
no_fault (Ok x) = Some x
no_fault (Err e) = None

-- a text at a key that is a name of at most so many bytes
abbrev pub name_at : List ℕ → ℕ → Data → Option (List ℕ)
name_at key most d = option_and_then (λ text. if is_name most text then Some text else None) (text_at key d)

-- a map with the entry that a tree spells, at a name that is new and for which there is room
abbrev pub put_in : {X : Type 0} → ℕ → (Data → Option (List ℕ × X)) → FinMap text_order X → Data → Option (FinMap text_order X)
put_in most read m d = option_and_then (λ e. if is_some (put_fault most m e.0) then None else Some (insert m e.0 e.1)) (read d)

-- the same of each tree of a list
abbrev pub listed : {X : Type 0} → ℕ → (Data → Option (List ℕ × X)) → FinMap text_order X → List Data → Option (FinMap text_order X)
listed most read m [] = Some m
listed most read m (d ∷ ds) = option_and_then (λ more. listed most read more ds) (put_in most read m d)

-- what an absent list spells is empty
abbrev pub list_at : {X : Type 0} → ℕ → (Data → Option (List ℕ × X)) → Option Data → Option (FinMap text_order X)
list_at most read None = Some empty
list_at most read (Some d) = option_and_then (listed most read empty) (list_in d)

-- a name, and the attribute at it
abbrev pub attribute_in : Data → Option (List ℕ × Content)
attribute_in d = option_and_then (λ name. option_map (λ c. (name, c)) (no_fault (attribute_of d))) (name_at (codes "name") longest_name d)

abbrev pub attributes_in : Option Data → Option Names
attributes_in = list_at most_attributes attribute_in

-- a title without a slash
abbrev pub title_at : Data → Option (List ℕ)
title_at d = option_and_then (λ text. if list_all (λ byte. not (byte == 47)) text then Some text else None) (name_at (codes "title") most_of_title d)

-- a title, and the link at it
abbrev pub titled_in : Data → Option (List ℕ × LinkTo)
titled_in d = option_and_then (λ title. option_map (λ link. (title, link)) (link_in d)) (title_at d)

abbrev pub links_in : Option Data → Option Titles
links_in = list_at most_links titled_in
