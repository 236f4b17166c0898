-- The bodies of nodes' records.
--     node_tree node      the tree of a folder or a domain
--     node_body node      the body of its record
--     node_in d      the node that a tree spells
--     node_of_body body      what a body reads as
--     IsKeptNode node      what is true of each node of a catalogue
use Rattle.std.specs.Prelude.{◌≡◌, ℕ, List, Bool, true, false, ◌==◌, ◌&&◌, length, Option, Some, None, option_map, option_and_then, if◌then◌else◌, codes}
use Rattle.std.specs.Str.{bytes_eq, is_utf8}
use Rattle.serde_json.specs.Data.{Data, number, unsigned, string, object, member, no_members}
use Rattle.serde_json.specs.Find.{get}
use Rattle.serde_json.specs.Read.{read}
use Rattle.serde_json.specs.Written.{compact_text}
use Rattle.json_trees.specs.Trees.{text_at, whole_in}
use Rattle.object_ids.specs.Ids.{InRange, text_of_id}
use Rattle.object_ids.specs.IdValues.{Id}
use Rattle.object_ids.specs.Names.{is_name}
use Rattle.object_ids.specs.declared.ids.Kind.{Kind}
use Rattle.object_ids.specs.declared.ids.Kind.TheVariants.{Group, Dataset, Datatype}
use Rattle.groups_links.specs.IdTexts.{id_of}
use Rattle.access_lists.specs.EntryTrees.{list_tree}
use Rattle.access_lists.specs.InForce.{Entries}
use Rattle.access_lists.specs.Lists.{IsList}
use Rattle.domains.specs.Contents.{HasRoot, NumberFits}
use Rattle.domains.specs.declared.classes.Node.{Node}
use Rattle.domains.specs.declared.classes.NodeClass.{NodeClass}
use Rattle.domains.specs.declared.classes.NodeClass.TheVariants.{Folder, Domain}
use Rattle.domains.specs.Records.Lists.{list_in, name_in, size}
use Rattle.containers.specs.Options.{only_if}

-- ---- the tree of a node: its class, its owner and its list, and of a domain its number and its root

abbrev pub folder_tree : Data → List ℕ → Data
folder_tree acls owner = object (member (codes "acls") acls (member (codes "class") (string (codes "folder")) (member (codes "owner") (string owner) no_members)))

abbrev pub domain_tree : Data → ℕ → List ℕ → Id → Data
domain_tree acls own owner root =
    object (member (codes "acls") acls (member (codes "class") (string (codes "domain")) (member (codes "number") (number (unsigned own))
    (member (codes "owner") (string owner) (member (codes "root") (string (text_of_id root)) no_members)))))

abbrev pub class_tree : NodeClass → Data → List ℕ → Data
class_tree Folder acls owner = folder_tree acls owner
class_tree (Domain own root) acls owner = domain_tree acls own owner root

abbrev pub node_tree : Node → Data
node_tree node = class_tree node.class (list_tree node.list) node.owner

-- the tree as text without a space
abbrev pub node_body : Node → List ℕ
node_body node = compact_text (node_tree node)

-- ---- what a tree spells

abbrev pub is_group : Kind → Bool
is_group Group = true
is_group Dataset = false
is_group Datatype = false

-- a group of the domain
abbrev pub is_root : ℕ → Id → Bool
is_root own root = is_group root.kind && root.domain == own

abbrev pub domain_of : ℕ → Id → Option NodeClass
domain_of own root = only_if (is_root own root) (Some (Domain own root))

abbrev pub number_at : Data → Option ℕ
number_at d = option_and_then whole_in (get (codes "number") d)

abbrev pub root_at : Data → Option Id
root_at d = option_and_then id_of (text_at (codes "root") d)

-- a folder has three members, and a domain has five
abbrev pub folder_in : Data → Option NodeClass
folder_in d = only_if (size d == 3) (Some Folder)

abbrev pub domain_in : Data → Option NodeClass
domain_in d = only_if (size d == 5) (option_and_then (λ own. option_and_then (domain_of own) (root_at d)) (number_at d))

abbrev pub class_of : Data → List ℕ → Option NodeClass
class_of d word =
    if bytes_eq word (codes "folder") then folder_in d
    else if bytes_eq word (codes "domain") then domain_in d
    else None

abbrev pub class_in : Data → Option NodeClass
class_in d = option_and_then (class_of d) (text_at (codes "class") d)

abbrev pub owner_in : Data → Option (List ℕ)
owner_in d = option_and_then name_in (text_at (codes "owner") d)

abbrev pub acls_in : Data → Option Entries
acls_in d = option_and_then list_in (get (codes "acls") d)

-- the node that a tree spells: each key of its class is there, and no other
abbrev pub node_in : Data → Option Node
node_in d =
    option_and_then (λ class. option_and_then (λ owner. option_map (λ list. record { class = class; owner = owner; list = list }) (acls_in d)) (owner_in d)) (class_in d)

-- what a body reads as
abbrev pub node_of_body : List ℕ → Option Node
node_of_body body = if is_utf8 body then option_and_then node_in (read body) else None

-- ---- what is true of every node of a catalogue

-- the number, run and serial of a domain's root are within their limits
abbrev pub HasId : NodeClass → Type 0
HasId Folder = Unit {0}
HasId (Domain own root) = InRange root

pub record IsKeptNode (node : Node) : Type 0 where
  pub owner : is_name (length node.owner) node.owner ≡ true
  pub list : IsList node.list
  pub fits : NumberFits node.class
  pub root : HasRoot node.class
  pub id : HasId node.class
