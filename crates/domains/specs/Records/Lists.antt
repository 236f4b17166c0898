-- Access lists as trees spell them.
--     size      how many members an object has
--     name_in text      the name that a text is
--     entry_in d      the entry that a tree spells
--     entry_of e      a name, and the entry at it
--     list_in d      the list that a tree spells
use Rattle.std.specs.Prelude.{ℕ, List, Bool, ◌==◌, nat_le, length, Option, Some, None, option_map, option_and_then, if◌then◌else◌}
use Rattle.serde_json.specs.Data.{Data, Members}
use Rattle.serde_json.specs.Find.{as_bool, as_object, get}
use Rattle.json_trees.specs.Trees.{all_in, pairs_of}
use Rattle.object_ids.specs.Names.{is_name}
use Rattle.access_lists.specs.EntryTrees.{rights_of}
use Rattle.access_lists.specs.InForce.{Entries, most_entries}
use Rattle.access_lists.specs.RightWords.{right_name}
use Rattle.access_lists.specs.declared.right.Right.{Right}
use Rattle.access_lists.specs.declared.right.Right.TheVariants.{Create, Read, Update, Delete, ReadAcl, UpdateAcl}
use Rattle.access_lists.specs.declared.rights.Rights.{Rights}
use Rattle.containers.specs.Options.{only_if}
use Rattle.containers.specs.TextMaps.Keyed.{map_of}

-- how many members a tree has
abbrev pub size_of : Option Members → ℕ
size_of None = 0
size_of (Some ms) = length (pairs_of ms)

abbrev pub size : Data → ℕ
size d = size_of (as_object d)

-- a text that is a name, of any length
abbrev pub name_in : List ℕ → Option (List ℕ)
name_in text = only_if (is_name (length text) text) (Some text)

-- the truth value at the key of a right
abbrev pub right_at : Right → Data → Option Bool
right_at right d = option_and_then as_bool (get (right_name right) d)

-- an object of six members, with a truth value at the key of each right
abbrev pub entry_in : Data → Option Rights
entry_in d = only_if (size d == 6) (rights_of (right_at Create d) (right_at Read d) (right_at Update d) (right_at Delete d) (right_at ReadAcl d) (right_at UpdateAcl d))

-- a name, and the entry at it
abbrev pub entry_of : List ℕ × Data → Option (List ℕ × Rights)
entry_of e = option_and_then (λ name. option_map (λ entry. (name, entry)) (entry_in e.1)) (name_in e.0)

-- at most 1,024 entries, each at its name
abbrev pub listed : List (List ℕ × Data) → Option Entries
listed pairs = only_if (nat_le (length pairs) most_entries) (option_map map_of (all_in entry_of pairs))

abbrev pub list_in : Data → Option Entries
list_in d = option_and_then (λ ms. listed (pairs_of ms)) (as_object d)
