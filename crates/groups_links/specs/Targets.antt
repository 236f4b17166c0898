-- Where links lead, and which trees spell them.
use Rattle.std.specs.Prelude.{◌≡◌, ℕ, List, true, Option, Some, None, IsSome, option_map, option_and_then, Result, Ok, Err, codes, if◌then◌else◌}
use Rattle.std.specs.Option.{option_or}
use Rattle.serde_json.specs.Data.{Data}
use Rattle.serde_json.specs.Find.{get, as_str}
use Rattle.object_ids.specs.Ids.{InRange}
use Rattle.object_ids.specs.Names.{is_name}
use Rattle.object_ids.specs.declared.names.NameFault.{NameFault}
use Rattle.object_ids.specs.declared.names.NameFault.TheVariants as names
use Rattle.groups_links.specs.IdTexts.{id_of}
use Rattle.groups_links.specs.declared.target.LinkTo.{LinkTo}
use Rattle.groups_links.specs.declared.target.LinkTo.TheVariants.{Hard, Soft, External}
use Rattle.groups_links.specs.declared.reading.LinkFault.{LinkFault}
use Rattle.groups_links.specs.declared.reading.LinkFault.TheVariants.{NotALink, NoMemory}

-- the most bytes of a path or a file
abbrev pub most_of_text : ℕ
most_of_text = 1024

-- a path or a file
abbrev pub IsText : List ℕ → Type 0
IsText text = is_name most_of_text text ≡ true

-- what a tree can spell
abbrev pub IsSoundLink : LinkTo → Type 0
IsSoundLink (Hard id) = InRange id
IsSoundLink (Soft path) = IsText path
IsSoundLink (External path file) = IsText path × IsText file

-- the path or the file that a tree is
abbrev pub text_in : Data → Option (List ℕ)
text_in d = option_and_then (λ text. if is_name most_of_text text then Some text else None) (as_str d)

-- the link to the object whose id a tree is
abbrev pub hard_in : Data → Option LinkTo
hard_in d = option_map Hard (option_and_then id_of (as_str d))

-- the link to a path, in the file that is named where one is
abbrev pub outward_in : Data → Option Data → Option LinkTo
outward_in path None = option_map Soft (text_in path)
outward_in path (Some file) = option_and_then (λ p. option_map (External p) (text_in file)) (text_in path)

-- what names the file: the first of these keys that is there
abbrev pub file_at : Data → Option Data
file_at d = option_or (option_or (get (codes "h5domain") d) (get (codes "file") d)) (get (codes "domain") d)

-- the link by what stands at the keys of the id, the path and the file
abbrev pub link_by : Option Data → Option Data → Option Data → Option LinkTo
link_by (Some id) path file = hard_in id
link_by None (Some path) file = outward_in path file
link_by None None file = None

-- the link that a tree spells
unfoldable pub link_in : Data → Option LinkTo
link_in d = link_by (get (codes "id") d) (get (codes "h5path") d) (file_at d)

-- a fault of a path or a file
abbrev pub name_fault : NameFault → LinkFault
name_fault names.BadName = NotALink
name_fault names.NoMemory = NoMemory

-- what is there is read, and is refused for its form only where there is nothing
abbrev pub Reads : {A : Type 0} → Result A LinkFault → Option A → Type 0
Reads (Ok x) found = found ≡ Some x
Reads (Err NotALink) found = found ≡ None
Reads (Err NoMemory) found = IsSome found
