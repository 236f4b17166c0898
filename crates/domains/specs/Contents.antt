-- What a catalogue is.
--     Contents      the nodes by their paths, and the number of the next domain
--     most_nodes      the most nodes of a catalogue
--     class_at c path      the class of the node at a path, where there is one
--     IsFolderAt, IsDomainAt, HasChildren      what stands at a path
--     IsCatalogue      what is true of every catalogue
--     MayStandAt, NumberFits, IsNumberFree, HasRoot      what put_node asks of a node
--     IsPlace      where a node may be added
--     with_node c path node      c with the node at the path
use Rattle.std.specs.Prelude.{◌≡◌, ◌≢◌, ◌⊎◌, ℕ, ◌+◌, ◌<◌, ◌≤◌, ◌^◌, max, List, Option, Some, None, IsSome, option_map, Bool, true, false}
use Rattle.std.specs.FinMap.{FinMap, empty as no_nodes, get, insert, len}
use Rattle.containers.specs.TextMaps.Keyed.{text_order}
use Rattle.object_ids.specs.Paths.{parent_of, path_of, root_path}
use Rattle.object_ids.specs.declared.ids.Kind.TheVariants.{Group}
use Rattle.object_ids.specs.declared.ids.ObjectId.{ObjectId}
use Rattle.domains.specs.declared.classes.Node.{Node}
use Rattle.domains.specs.declared.classes.NodeClass.{NodeClass}
use Rattle.domains.specs.declared.classes.NodeClass.TheVariants.{Folder, Domain}

pub record Contents : Type 0 where
  pub nodes : FinMap text_order Node
  pub next : ℕ

abbrev pub most_nodes : ℕ
most_nodes = 65536

abbrev pub class_at : Contents → List ℕ → Option NodeClass
class_at c path = option_map (λ node. node.class) (get c.nodes path)

abbrev pub IsFolderAt : Contents → List ℕ → Type 0
IsFolderAt c path = class_at c path ≡ Some Folder

abbrev pub IsDomainAt : Contents → List ℕ → ℕ → ObjectId → Type 0
IsDomainAt c path number root = class_at c path ≡ Some (Domain number root)

abbrev pub is_domain : NodeClass → Bool
is_domain Folder = false
is_domain (Domain number root) = true

-- a node stands right below the path
abbrev pub HasChildren : Contents → List ℕ → Type 0
HasChildren c path = (child : List ℕ) × (parent_of child ≡ path) × (child ≢ path) × IsSome (class_at c child)

-- the id of a group of the domain with this number
abbrev pub IsGroupOf : ℕ → ObjectId → Type 0
IsGroupOf number id = (id.kind ≡ Group) × (id.domain ≡ number)

pub record IsCatalogue (c : Contents) : Type 0 where
  pub root : IsFolderAt c root_path
  pub paths : (path : List ℕ) → IsSome (class_at c path) → path_of path ≡ Some path
  pub parents : (path : List ℕ) → IsSome (class_at c path) → IsFolderAt c (parent_of path)
  pub few : len c.nodes ≤ most_nodes
  pub below : (path : List ℕ) (number : ℕ) (id : ObjectId) → IsDomainAt c path number id → number < c.next
  pub fits : c.next ≤ 2 ^ 48
  pub roots : (path : List ℕ) (number : ℕ) (id : ObjectId) → IsDomainAt c path number id → IsGroupOf number id
  pub distinct : (path other : List ℕ) (number : ℕ) (id own : ObjectId) → IsDomainAt c path number id → IsDomainAt c other number own → path ≡ other

-- a folder at `/`; anything below a folder
abbrev pub MayStandAt : Contents → List ℕ → NodeClass → Type 0
MayStandAt c path class = ((path ≡ root_path) × (class ≡ Folder)) ⊎ ((path ≢ root_path) × IsFolderAt c (parent_of path))

-- a domain's number is below 2^48
abbrev pub NumberFits : NodeClass → Type 0
NumberFits Folder = Unit {0}
NumberFits (Domain number id) = number < 2 ^ 48

-- no domain at another path has the number
abbrev pub IsFree : Contents → List ℕ → ℕ → Type 0
IsFree c path number = (other : List ℕ) (id : ObjectId) → IsDomainAt c other number id → other ≡ path

abbrev pub IsNumberFree : Contents → List ℕ → NodeClass → Type 0
IsNumberFree c path Folder = Unit {0}
IsNumberFree c path (Domain number id) = IsFree c path number

-- a domain's root is a group of the domain
abbrev pub HasRoot : NodeClass → Type 0
HasRoot Folder = Unit {0}
HasRoot (Domain number id) = IsGroupOf number id

-- no node stands at the path, a folder stands at its parent, and there is room for a node
pub record IsPlace (c : Contents) (path : List ℕ) : Type 0 where
  pub empty : get c.nodes path ≡ None
  pub parent : IsFolderAt c (parent_of path)
  pub room : len c.nodes < most_nodes

-- the next number, which no number so far reaches
abbrev pub raised : ℕ → NodeClass → ℕ
raised next Folder = next
raised next (Domain number id) = max next (number + 1)

abbrev pub with_node : Contents → List ℕ → Node → Contents
with_node c path node = record { nodes = insert c.nodes path node; next = raised c.next node.class }

-- the folder `/` alone
abbrev pub only_root : Node → Contents
only_root node = record { nodes = insert no_nodes root_path node; next = 1 }
