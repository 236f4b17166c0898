-- The records of the run, of folders and domains, and of the next domain's number; and those that can't stand.
use Rattle.std.specs.Prelude.{◌≡◌, ℕ, ◌<◌, ◌≤◌, ◌^◌, ◌==◌, Bool, false, List, [], ◌∷◌, ◌++◌, Option, Some, None, option_and_then, option_map, count_by}
use Rattle.std.specs.FinMap.{entries, get}
use Rattle.std.specs.declared.cmp.Ordering.TheVariants.{Less}
use Rattle.containers.specs.TextMaps.Keyed.{text_order}
use Rattle.flush_journal.specs.Records.{Held, Record}
use Rattle.object_ids.specs.IdValues.{Id}
use Rattle.object_ids.specs.Paths.{parent_of, root_path}
use Rattle.domains.specs.Contents.{Contents, most_nodes}
use Rattle.domains.specs.declared.classes.Node.{Node}
use Rattle.domains.specs.declared.classes.NodeClass.{NodeClass}
use Rattle.domains.specs.declared.classes.NodeClass.TheVariants.{Folder, Domain}
use Rattle.object_records.specs.Keys.Keys.{IsPath, next_key, node_key, run_key}
use Rattle.object_records.specs.Keys.Numbers.{next_bytes, run_bytes}
use Rattle.domains.specs.Records.Nodes.{node_of_body}

-- ---- what the records tell

pub record IsRun (held : Held) (run : ℕ) : Type 0 where
  pub small : run < 2 ^ 22
  pub here : get held run_key ≡ Some (run_bytes run)

pub record IsNextNumber (held : Held) (next : ℕ) : Type 0 where
  pub small : next ≤ 2 ^ 48
  pub here : get held next_key ≡ Some (next_bytes next)

-- the node that the record of a path tells
abbrev pub node_at : Held → List ℕ → Option Node
node_at held path = option_and_then node_of_body (get held (node_key path))

abbrev pub class_at : Held → List ℕ → Option NodeClass
class_at held path = option_map (λ node. node.class) (node_at held path)

-- ---- what the record of a node keeps to

-- its root was made in a run up to the kept one; its number was given, and is that of no domain whose path stands before it
pub record IsDomainOf (held : Held) (path : List ℕ) (number : ℕ) (root : Id) : Type 0 where
  pub made : (run : ℕ) → IsRun held run → root.run ≤ run
  pub given : (next : ℕ) → IsNextNumber held next → number < next
  pub free : (other : List ℕ) (id : Id) → text_order other path ≡ Less → class_at held other ≡ Some (Domain number id) → ⊥

abbrev pub KeepsNumber : Held → List ℕ → NodeClass → Type 0
KeepsNumber held path Folder = Unit {0}
KeepsNumber held path (Domain number root) = IsDomainOf held path number root

abbrev pub is_node_key : List ℕ → Bool
is_node_key [] = false
is_node_key (byte ∷ path) = byte == 2

-- how many of some records are those of nodes
abbrev pub count_nodes : List Record → ℕ
count_nodes records = count_by (λ e. is_node_key e.0) records

pub record IsNodeRecord (held : Held) (path body : List ℕ) : Type 0 where
  pub canonical : IsPath path
  pub parent : class_at held (parent_of path) ≡ Some Folder
  pub node : Node
  pub reads : node_of_body body ≡ Some node
  pub number : KeepsNumber held path node.class
  pub room : (front rest : List Record) → entries held ≡ front ++ (node_key path, body) ∷ rest → count_nodes front < most_nodes

-- ---- records that can't stand, or are missing

pub data IsRegisterFault (held : Held) (key : List ℕ) : Type 0 where
  no_run : key ≡ run_key → ((run : ℕ) → IsRun held run → ⊥) → IsRegisterFault held key
  bad_node : (path body : List ℕ) → key ≡ node_key path → get held key ≡ Some body → (IsNodeRecord held path body → ⊥) → IsRegisterFault held key
  no_root : key ≡ node_key root_path → get held key ≡ None → IsRegisterFault held key
  no_next : key ≡ next_key → ((next : ℕ) → IsNextNumber held next → ⊥) → IsRegisterFault held key

-- ---- the register that the records describe

pub record DescribesRegister (held : Held) (run : ℕ) (c : Contents) : Type 0 where
  pub kept : IsRun held run
  pub next : IsNextNumber held c.next
  pub nodes : (path : List ℕ) → get c.nodes path ≡ node_at held path
  pub root : class_at held root_path ≡ Some Folder
  pub rules : (path body : List ℕ) → get held (node_key path) ≡ Some body → IsNodeRecord held path body
