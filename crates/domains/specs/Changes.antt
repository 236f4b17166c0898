-- How a catalogue changes, and why it doesn't.
--     make_fault, number_fault, remove_fault, entry_fault, children_fault      why not; None where nothing speaks against it
--     Blames result fault      a call answers this fault, or it succeeds or finds no memory where there is none
--     new_node class owner      a node as it is made: its owner has all six rights
--     root_of number run serial      the id of a new domain's root group
--     without_node, with_entry      a catalogue without the node at a path, with an entry in its list
--     folder_count, domain_count      how many folders and domains there are
use Rattle.std.specs.Prelude.{◌≡◌, ℕ, List, Bool, true, false, not, ◌||◌, nat_lt, count_by, Option, Some, None, Result, Ok, Err, if◌then◌else◌}
use Rattle.std.specs.FinMap.{FinMap, contains_key, empty as no_entries, entries, get, insert, len, remove}
use Rattle.std.specs.Str.{bytes_eq}
use Rattle.containers.specs.TextMaps.Keyed.{text_order}
use Rattle.object_ids.specs.IdValues.{Id}
use Rattle.object_ids.specs.Paths.{parent_of, root_path}
use Rattle.object_ids.specs.declared.ids.Kind.TheVariants.{Group}
use Rattle.object_ids.specs.declared.limits.LimitKind.TheVariants as limit
use Rattle.access_lists.specs.InForce.{Entries, most_entries}
use Rattle.access_lists.specs.RightWords.{all_rights}
use Rattle.access_lists.specs.declared.rights.Rights.{Rights}
use Rattle.domains.specs.declared.classes.Node.{Node}
use Rattle.domains.specs.declared.classes.NodeClass.{NodeClass}
use Rattle.domains.specs.declared.classes.NodeClass.TheVariants.{Folder, Domain}
use Rattle.domains.specs.declared.faults.CatFault.{CatFault}
use Rattle.domains.specs.declared.faults.CatFault.TheVariants.{NoFolder, Taken, Limit, NoDomain, NotEmpty, Root, NoMemory}
use Rattle.domains.specs.Contents.{Contents, class_at, most_nodes}
use Rattle.domains.specs.Children.{has_children}

abbrev pub is_folder : Option NodeClass → Bool
is_folder None = false
is_folder (Some Folder) = true
is_folder (Some (Domain number root)) = false

-- the numbers of domains are below this
abbrev pub number_limit : ℕ
number_limit = 281474976710656

-- a node is added in a folder, where none stands, while there is room
abbrev pub make_fault : Contents → List ℕ → Option CatFault
make_fault c path =
    if is_folder (class_at c (parent_of path)) then
    (if contains_key c.nodes path then Some Taken else (if nat_lt (len c.nodes) most_nodes then None else Some (Limit limit.Nodes)))
    else Some NoFolder

-- and a domain also needs a number
abbrev pub number_fault : Option CatFault → ℕ → Option CatFault
number_fault None next = if nat_lt next number_limit then None else Some (Limit limit.Domain)
number_fault (Some fault) next = Some fault

abbrev pub domain_fault : Contents → List ℕ → Option CatFault
domain_fault c path = number_fault (make_fault c path) c.next

-- a node is removed that has no children and is not `/`
abbrev pub remove_fault : Contents → List ℕ → Option CatFault
remove_fault c path =
    if contains_key c.nodes path then (if has_children c path then Some NotEmpty else (if bytes_eq path root_path then Some Root else None)) else Some NoDomain

-- an entry is put into the list of a node, where its name is there or there is room
abbrev pub list_fault : Entries → List ℕ → Option CatFault
list_fault list name = if contains_key list name || nat_lt (len list) most_entries then None else Some (Limit limit.Entries)

abbrev pub node_fault : Option Node → List ℕ → Option CatFault
node_fault None name = Some NoDomain
node_fault (Some node) name = list_fault node.list name

abbrev pub entry_fault : Contents → List ℕ → List ℕ → Option CatFault
entry_fault c path name = node_fault (get c.nodes path) name

-- a folder has a list of children
abbrev pub children_fault : Contents → List ℕ → Option CatFault
children_fault c path = if is_folder (class_at c path) then None else Some NoFolder

abbrev pub Blames : {A : Type 0} → Result A CatFault → Option CatFault → Type 0
Blames (Ok x) fault = fault ≡ None
Blames (Err NoMemory) fault = fault ≡ None
Blames (Err NoFolder) fault = fault ≡ Some NoFolder
Blames (Err Taken) fault = fault ≡ Some Taken
Blames (Err (Limit what)) fault = fault ≡ Some (Limit what)
Blames (Err NoDomain) fault = fault ≡ Some NoDomain
Blames (Err NotEmpty) fault = fault ≡ Some NotEmpty
Blames (Err Root) fault = fault ≡ Some Root

abbrev pub new_node : NodeClass → List ℕ → Node
new_node class owner = record { class = class; owner = owner; list = insert no_entries owner all_rights }

abbrev pub root_of : ℕ → ℕ → ℕ → Id
root_of number run serial = record { kind = Group; domain = number; run = run; serial = serial }

abbrev pub new_domain : ℕ → ℕ → ℕ → List ℕ → Node
new_domain number run serial owner = new_node (Domain number (root_of number run serial)) owner

abbrev pub without_node : Contents → List ℕ → Contents
without_node c path = record { nodes = remove c.nodes path; next = c.next }

abbrev pub node_with : Node → List ℕ → Rights → Node
node_with node name rights = record node { list = insert node.list name rights }

abbrev pub entry_put : FinMap text_order Node → List ℕ → Option Node → List ℕ → Rights → FinMap text_order Node
entry_put nodes path None name rights = nodes
entry_put nodes path (Some node) name rights = insert nodes path (node_with node name rights)

-- the entry stands in the list of the node at the path, and all else is as it was
abbrev pub with_entry : Contents → List ℕ → List ℕ → Rights → Contents
with_entry c path name rights = record { nodes = entry_put c.nodes path (get c.nodes path) name rights; next = c.next }

abbrev pub is_folder_node : Node → Bool
is_folder_node node = is_folder (Some node.class)

abbrev pub folder_count : Contents → ℕ
folder_count c = count_by (λ e. is_folder_node e.1) (entries c.nodes)

abbrev pub domain_count : Contents → ℕ
domain_count c = count_by (λ e. not (is_folder_node e.1)) (entries c.nodes)
