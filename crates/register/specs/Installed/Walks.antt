-- What is installed while records are walked over; for private clauses.
use Rattle.std.specs.Prelude.{◌≡◌, ◌≢◌, ◌⊎◌, ℕ, ◌+◌, ◌&&◌, nat_lt, nat_le, not, Bool, true, false, List, [], ◌∷◌, ◌++◌, Option, Some, None, IsSome, is_some}
use Rattle.std.specs.FinMap.{FinMap, entries, get, insert, len}
use Rattle.std.specs.declared.cmp.Ordering.TheVariants.{Less}
use Rattle.containers.specs.TextMaps.Keyed.{text_order}
use Rattle.flush_journal.specs.Records.{Held, Record}
use Rattle.object_ids.specs.IdOrder.{id_order}
use Rattle.object_ids.specs.IdValues.{Id}
use Rattle.object_ids.specs.Paths.{root_path}
use Rattle.object_ids.specs.declared.ids.Kind.TheVariants.{Group}
use Rattle.domains.specs.Contents.{Contents, IsDomainAt, IsPlace}
use Rattle.domains.specs.declared.classes.Node.{Node}
use Rattle.domains.specs.declared.classes.NodeClass.{NodeClass}
use Rattle.domains.specs.declared.classes.NodeClass.TheVariants.{Folder, Domain}
use Rattle.object_records.specs.Keys.Keys.{node_key}
use Rattle.domains.specs.Records.Nodes.{node_of_body}
use Rattle.domains.specs.declared.records.faults.NodeFault.{NodeFault}
use Rattle.domains.specs.declared.records.faults.NodeFault.TheVariants as of_nodes
use Rattle.containers.specs.TextMaps.Fronts.{held_by}
use Rattle.object_records.specs.declared.install_fault.InstallFault.{InstallFault}
use Rattle.object_records.specs.declared.install_fault.InstallFault.TheVariants.{BadRecord, NoMemory}
use Rattle.register.specs.Installed.Registers.{IsNextNumber, IsNodeRecord, count_nodes, node_at}

-- the fault of a record is named by the record's key
abbrev pub Names : List ℕ → NodeFault → InstallFault → Type 0
Names key of_nodes.BadNode (BadRecord k) = k.items ≡ key
Names key of_nodes.BadNode NoMemory = Unit {0}
Names key of_nodes.NoMemory (BadRecord k) = ⊥
Names key of_nodes.NoMemory NoMemory = Unit {0}

-- a record that can't stand is so for a reason
abbrev pub Blames : NodeFault → Type 0 → Type 0
Blames of_nodes.BadNode P = P
Blames of_nodes.NoMemory P = Unit {0}

-- ---- numbers

abbrev pub Roots : Type 0
Roots = FinMap id_order Id

-- the id under which a domain's number is looked up
abbrev pub number_id : ℕ → Id
number_id number = record { kind = Group; domain = number; run = 0; serial = 0 }

-- the next number, where the record of it can stand
abbrev pub IsNextOf : Held → Option ℕ → Type 0
IsNextOf held (Some next) = IsNextNumber held next
IsNextOf held None = (next : ℕ) → IsNextNumber held next → ⊥

abbrev pub is_given : Option ℕ → ℕ → Bool
is_given None number = true
is_given (Some next) number = nat_lt number next

abbrev pub may_stand : ℕ → Option ℕ → Roots → NodeClass → Bool
may_stand run next roots Folder = true
may_stand run next roots (Domain number root) = nat_le root.run run && is_given next number && not (is_some (get roots (number_id number)))

abbrev pub with_root : Roots → NodeClass → Roots
with_root roots Folder = roots
with_root roots (Domain number root) = insert roots (number_id number) root

-- the numbers of all domains
pub record AreRoots (c : Contents) (roots : Roots) : Type 0 where
  pub there : (number : ℕ) → IsSome (get roots (number_id number)) → (path : List ℕ) × (root : Id) × IsDomainAt c path number root
  pub all : (path : List ℕ) (number : ℕ) (root : Id) → IsDomainAt c path number root → IsSome (get roots (number_id number))

-- ---- a node

-- the body tells a node that may stand there, and it is put
pub record PutsNode (run : ℕ) (next : Option ℕ) (path body : List ℕ) (c : Contents) (roots : Roots) (c' : Contents) (roots' : Roots) : Type 0 where
  pub node : Node
  pub reads : node_of_body body ≡ Some node
  pub place : IsPlace c path
  pub stands : may_stand run next roots node.class ≡ true
  pub put : c'.nodes ≡ insert c.nodes path node
  pub root : roots' ≡ with_root roots node.class

-- why a node isn't put
pub data NoPut (run : ℕ) (next : Option ℕ) (path body : List ℕ) (c : Contents) (roots : Roots) : Type 0 where
  no_node : node_of_body body ≡ None → NoPut run next path body c roots
  no_place : (IsPlace c path → ⊥) → NoPut run next path body c roots
  no_number : (node : Node) → node_of_body body ≡ Some node → may_stand run next roots node.class ≡ false → NoPut run next path body c roots

-- ---- a walk

abbrev pub one_without : Option (List ℕ) → ℕ
one_without None = 1
one_without (Some body) = 0

-- no key behind it is a node's
abbrev pub is_past_nodes : List ℕ → Bool
is_past_nodes [] = false
is_past_nodes (byte ∷ rest) = nat_lt 2 byte

-- the nodes before the rest are installed, and keep to the rules; the root is there from the first
pub record IsNodeWalk (held : Held) (rest : List Record) (c : Contents) (roots : Roots) : Type 0 where
  pub front : List Record
  pub split : entries held ≡ front ++ rest
  pub root : get c.nodes root_path ≡ node_at held root_path
  pub nodes : (path : List ℕ) → path ≢ root_path → get c.nodes path ≡ node_at (held_by front) path
  pub rules : (path body : List ℕ) → get (held_by front) (node_key path) ≡ Some body → IsNodeRecord held path body
  pub count : len c.nodes ≡ count_nodes front + one_without (get (held_by front) (node_key root_path))
  pub numbers : AreRoots c roots

-- the record of a node breaks its rules
pub record IsBadNode (held : Held) (key body : List ℕ) : Type 0 where
  pub path : List ℕ
  pub is : key ≡ node_key path
  pub broken : IsNodeRecord held path body → ⊥

-- no key of a node's record stands before it, and it isn't behind that of `/`
pub record IsFirst (held : Held) (key : List ℕ) : Type 0 where
  pub path : List ℕ
  pub is : key ≡ node_key path
  pub up_to : (key ≡ node_key root_path) ⊎ (IsSome (get held key) × (text_order key (node_key root_path) ≡ Less))
  pub none : (other : List ℕ) → text_order (node_key other) key ≡ Less → get held (node_key other) ≡ None
