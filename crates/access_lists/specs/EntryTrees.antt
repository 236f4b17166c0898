-- The JSON of entries and of access lists (HDF REST API, "ACLs").
--     rights_members entry rest      the six keys, and then other members
--     entry_members es, put_all es ms      entries as members, at their names
--     entry_tree, acl_tree, list_tree, acls_tree      an entry, with its name, the entries by names, the list of the entries
--     truth_at key d      the truth value at a key
--     entry_in, list_in      the entry, and the list, that a tree is
--     IsEntry d entry      the tree d is the entry
use Rattle.std.specs.Prelude.{◌≡◌, ℕ, List, [], ◌∷◌, Bool, false, Option, Some, None, IsSome, codes, map, option_map, option_and_then}
use Rattle.std.specs.FinMap.{empty as no_entries, entries, insert}
use Rattle.serde_json.specs.Data.{Data, boolean, string, array, object, Members, no_members, member, put}
use Rattle.serde_json.specs.Find.{get, as_bool, as_object}
use Rattle.serde_json.specs.View.{items_of}
use Rattle.access_lists.specs.declared.right.Right.{Right}
use Rattle.access_lists.specs.declared.right.Right.TheVariants.{Create, Read, Update, Delete, ReadAcl, UpdateAcl}
use Rattle.access_lists.specs.declared.rights.Rights.{Rights}
use Rattle.access_lists.specs.RightWords.{holds, right_name}
use Rattle.access_lists.specs.InForce.{Entries}

-- the six keys in the order of their bytes
abbrev pub rights_members : Rights → Members → Members
rights_members entry rest =
    member (codes "create") (boolean entry.create) (member (codes "delete") (boolean entry.delete) (member (codes "read") (boolean entry.read)
    (member (codes "readACL") (boolean entry.read_acl) (member (codes "update") (boolean entry.update) (member (codes "updateACL") (boolean entry.update_acl) rest)))))

abbrev pub entry_tree : Rights → Data
entry_tree entry = object (rights_members entry no_members)

-- an entry with its name
abbrev pub acl_tree : List ℕ → Rights → Data
acl_tree name entry = object (rights_members entry (member (codes "userName") (string name) no_members))

-- entries, each at its name
abbrev pub entry_members : List (List ℕ × Rights) → Members
entry_members [] = no_members
entry_members (e ∷ es) = member e.0 (entry_tree e.1) (entry_members es)

-- the same, put one after another in front of what members there are
abbrev pub put_all : List (List ℕ × Rights) → Members → Members
put_all [] ms = ms
put_all (e ∷ es) ms = put_all es (put e.0 (entry_tree e.1) ms)

abbrev pub list_tree : Entries → Data
list_tree list = object (entry_members (entries list))

abbrev pub acls_tree : Entries → Data
acls_tree list = array (items_of (map (λ e. acl_tree e.0 e.1) (entries list)))

-- what stands at a key, as a truth value: false where nothing does, and none where something else does
abbrev pub truth_in : Option Data → Option Bool
truth_in None = Some false
truth_in (Some d) = as_bool d

abbrev pub truth_at : List ℕ → Data → Option Bool
truth_at key d = truth_in (get key d)

abbrev pub rights_of : (create read update delete read_acl update_acl : Option Bool) → Option Rights
rights_of (Some create) (Some read) (Some update) (Some delete) (Some read_acl) (Some update_acl) =
    Some (record { create = create; read = read; update = update; delete = delete; read_acl = read_acl; update_acl = update_acl })
rights_of create read update delete read_acl update_acl = None

-- an object whose six keys are truth values or absent; other keys don't count
abbrev pub entry_in : Data → Option Rights
entry_in d =
    option_and_then
    (λ members. rights_of (truth_at (right_name Create) d) (truth_at (right_name Read) d) (truth_at (right_name Update) d)
    (truth_at (right_name Delete) d) (truth_at (right_name ReadAcl) d) (truth_at (right_name UpdateAcl) d))
    (as_object d)

-- the same in other words: an object that has each right exactly where its key is true
abbrev pub IsEntry : Data → Rights → Type 0
IsEntry d entry = IsSome (as_object d) × ((right : Right) → truth_at (right_name right) d ≡ Some (holds right entry))

abbrev pub entries_in : Members → Option Entries
entries_in no_members = Some no_entries
entries_in (member name d ms) = option_and_then (λ entry. option_map (λ list. insert list name entry) (entries_in ms)) (entry_in d)

-- the list that a tree is, as `list_tree` writes it
abbrev pub list_in : Data → Option Entries
list_in d = option_and_then entries_in (as_object d)
