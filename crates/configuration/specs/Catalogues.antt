-- The catalogue that configured folders and domains make.
use Rattle.std.specs.Prelude.{◌≡◌, ℕ, ◌+◌, ◌-◌, List, [], ◌∷◌, Bool, not, ◌&&◌, ◌||◌, nat_le, map, Option, Some, codes}
use Rattle.std.specs.Option.{unwrap_or}
use Rattle.std.specs.List.{list_all}
use Rattle.std.specs.Str.{bytes_eq}
use Rattle.std.specs.FinMap.{FinMap, contains_key, empty, entries, get, len, remove}
use Rattle.object_ids.specs.IdValues.{Id}
use Rattle.object_ids.specs.Paths.{parent_of, path_of, root_path}
use Rattle.object_ids.specs.declared.ids.Kind.TheVariants.{Group}
use Rattle.containers.specs.TextMaps.Keyed.{text_order}
use Rattle.domains.specs.Contents.{Contents, IsPlace, only_root, with_node}
use Rattle.domains.specs.declared.classes.Node.{Node}
use Rattle.domains.specs.declared.classes.NodeClass.TheVariants.{Folder, Domain}
use Rattle.configuration.specs.declared.limits.TheConstants.{MAX_BELOW_ROOT}
use Rattle.configuration.specs.declared.setting.Setting.{Setting}
use Rattle.containers.specs.Options.{only_if}

-- the folder `/` where it is not configured
abbrev pub default_setting : Setting
default_setting = record { owner = codes "default"; list = empty }

-- whether a path lies in `/` or in a configured folder
abbrev pub has_parent : FinMap text_order Setting → List ℕ → Bool
has_parent folders path = bytes_eq (parent_of path) root_path || contains_key folders (parent_of path)

-- Whether folders beside `/` and domains make a tree: no path is named twice, and each lies in a folder.
abbrev pub is_tree : FinMap text_order Setting → FinMap text_order Setting → Bool
is_tree folders domains =
    not (contains_key domains root_path)
    && list_all (λ e. not (contains_key folders e.0)) (entries domains)
    && list_all (λ e. has_parent folders e.0) (entries folders)
    && list_all (λ e. has_parent folders e.0) (entries domains)
    && nat_le (len folders + len domains) MAX_BELOW_ROOT

abbrev pub folder_node : Setting → Node
folder_node setting = record { class = Folder; owner = setting.owner; list = setting.list }

-- the root group of a domain with this number: the first domain's has the serial 0, the next one's 1
abbrev pub root_of : ℕ → Id
root_of number = record { kind = Group; domain = number; run = 0; serial = number - 1 }

abbrev pub domain_node : ℕ → Setting → Node
domain_node number setting = record { class = Domain number (root_of number); owner = setting.owner; list = setting.list }

abbrev pub folder_nodes : List (List ℕ × Setting) → List (List ℕ × Node)
folder_nodes settings = map (λ e. (e.0, folder_node e.1)) settings

-- domains that are numbered in their order, from a first number
abbrev pub domain_nodes : ℕ → List (List ℕ × Setting) → List (List ℕ × Node)
domain_nodes number [] = []
domain_nodes number (e ∷ es) = (e.0, domain_node number e.1) ∷ domain_nodes (number + 1) es

-- a catalogue with further nodes
abbrev pub with_nodes : Contents → List (List ℕ × Node) → Contents
with_nodes c [] = c
with_nodes c (e ∷ es) = with_nodes (with_node c e.0 e.1) es

-- The catalogue of the folder `/`, the other folders, and the domains, whose numbers begin with 1 in byte order of paths.
abbrev pub catalogue_from : Setting → FinMap text_order Setting → FinMap text_order Setting → Contents
catalogue_from root folders domains =
    with_nodes (with_nodes (only_root (folder_node root)) (folder_nodes (entries folders))) (domain_nodes 1 (entries domains))

abbrev pub catalogue_of : FinMap text_order Setting → FinMap text_order Setting → Option Contents
catalogue_of folders domains =
    only_if (is_tree (remove folders root_path) domains)
    (Some (catalogue_from (unwrap_or (get folders root_path) default_setting) (remove folders root_path) domains))

-- each path is written as paths are
abbrev pub ArePaths : List (List ℕ × Setting) → Type 0
ArePaths [] = Unit {0}
ArePaths (e ∷ es) = (path_of e.0 ≡ Some e.0) × ArePaths es

-- nodes that are put one after another: each finds no node at its path, a folder at its parent, and room
abbrev pub CanBePut : Contents → List (List ℕ × Node) → Type 0
CanBePut c [] = Unit {0}
CanBePut c (e ∷ es) = IsPlace c e.0 × CanBePut (with_node c e.0 e.1) es
