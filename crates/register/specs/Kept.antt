-- What a journal holds of a register.
--     is_marked d path      the record of a path is to be written
--     IsRegisterMarked d key      that of a key is
--     IsRegisterRecord d r      a record is of what stands
--     RegisterSays d held      what is held tells the register, but for what is marked
--     all_kept d      the same register once all is held
--     AddsInTurn run c m old new      the records of numbers come before those of nodes
--     AreTexts c      each path of a catalogue is UTF-8
--     installed, IsInstalled      a register that was made from records
--     IsUsedUp held      no run is left
use Rattle.std.specs.Prelude.{◌≡◌, ℕ, ◌+◌, ◌-◌, ◌^◌, List, [], ◌∷◌, ◌++◌, Bool, true, false, ◌&&◌, ◌||◌, Option, Some, None, IsSome, Result, Ok, Err, option_and_then, replicate, if◌then◌else◌}
use Rattle.std.specs.List.{AllByRecursion}
use Rattle.std.specs.Str.{IsUtf8}
use Rattle.std.specs.FinMap.{contains_key, get}
use Rattle.flush_journal.specs.Records.{Held, Record}
use Rattle.domains.specs.Contents.{Contents}
use Rattle.domains.specs.declared.classes.Node.{Node}
use Rattle.object_records.specs.Keys.Keys.{next_key, node_key, run_key}
use Rattle.object_records.specs.Keys.Numbers.{next_bytes, run_bytes}
use Rattle.domains.specs.Records.Nodes.{node_body, node_of_body}
use Rattle.object_records.specs.declared.install_fault.InstallFault.{InstallFault as RecordFault}
use Rattle.object_records.specs.declared.install_fault.InstallFault.TheVariants as records
use Rattle.register.specs.Installed.Registers.{DescribesRegister, IsRegisterFault, IsRun}
use Rattle.register.specs.declared.installs.InstallFault.{InstallFault}
use Rattle.register.specs.declared.installs.InstallFault.TheVariants.{BadRecord, RunsUsed, NoMemory}
use Rattle.register.specs.Marks.{Marked, no_marks, run_marks}
use Rattle.register.specs.Decided.{RegisterState}

-- ---- what is to be written

abbrev pub is_marked_in : Contents → Marked → List ℕ → Bool
is_marked_in c m path = contains_key m.paths path || (m.all && contains_key c.nodes path)

-- the path is marked, or all nodes are and one stands there
abbrev pub is_marked : RegisterState → List ℕ → Bool
is_marked d path = is_marked_in d.catalogue d.marks path

pub data IsRegisterMarked (d : RegisterState) (key : List ℕ) : Type 0 where
  the_run : d.marks.run ≡ true → key ≡ run_key → IsRegisterMarked d key
  the_next : d.marks.next ≡ true → key ≡ next_key → IsRegisterMarked d key
  a_node : (path : List ℕ) → is_marked d path ≡ true → key ≡ node_key path → IsRegisterMarked d key

-- the record of what stands: of the run, of the next domain's number, of a node, or without a byte where no node stands
pub data IsRegisterRecord (d : RegisterState) (r : Record) : Type 0 where
  of_run : r ≡ (run_key, run_bytes d.run) → IsRegisterRecord d r
  of_next : r ≡ (next_key, next_bytes d.catalogue.next) → IsRegisterRecord d r
  of_node : (path : List ℕ) (node : Node) → get d.catalogue.nodes path ≡ Some node
      → r ≡ (node_key path, node_body node) → IsRegisterRecord d r
  of_none : (path : List ℕ) → get d.catalogue.nodes path ≡ None → r ≡ (node_key path, []) → IsRegisterRecord d r

-- ---- the order of records

abbrev pub one_where : Bool → Record → List Record
one_where due r = if due then r ∷ [] else []

-- the record of the run, and then that of the next domain's number, each where it is marked
abbrev pub numbers_marked : ℕ → Contents → Marked → List Record
numbers_marked run c m = one_where m.run (run_key, run_bytes run) ++ one_where m.next (next_key, next_bytes c.next)

abbrev pub IsOfNode : Record → Type 0
IsOfNode r = (path : List ℕ) × (r.0 ≡ node_key path)

-- those were added, and behind them records of nodes
pub record AddsInTurn (run : ℕ) (c : Contents) (m : Marked) (old new : List Record) : Type 0 where
  pub nodes : List Record
  pub added : new ≡ old ++ (numbers_marked run c m ++ nodes)
  pub of_nodes : AllByRecursion IsOfNode nodes

-- ---- what is held

-- what is held of a node reads as the node; where none stands nothing is held
abbrev pub IsHeldNode : Option Node → Option (List ℕ) → Type 0
IsHeldNode None body = body ≡ None
IsHeldNode (Some node) body = option_and_then node_of_body body ≡ Some node

pub record RegisterSays (d : RegisterState) (held : Held) : Type 0 where
  pub run : d.marks.run ≡ false → get held run_key ≡ Some (run_bytes d.run)
  pub next : d.marks.next ≡ false → get held next_key ≡ Some (next_bytes d.catalogue.next)
  pub nodes : (path : List ℕ) → is_marked d path ≡ false → IsHeldNode (get d.catalogue.nodes path) (get held (node_key path))

abbrev pub all_kept : RegisterState → RegisterState
all_kept d = record d { marks = no_marks }

abbrev pub run_kept : RegisterState → RegisterState
run_kept d = record d { marks = record d.marks { run = false } }

-- each path is UTF-8, as the text of every path is
abbrev pub AreTexts : Contents → Type 0
AreTexts c = (path : List ℕ) → IsSome (get c.nodes path) → IsUtf8 path

-- ---- a register that was made from records

-- at the begin of a run, of which nothing is held but the run
abbrev pub installed : Contents → ℕ → ℕ → RegisterState
installed catalogue lanes run = record { catalogue = catalogue; run = run; serial = 0; places = 0; issued = replicate lanes 0; marks = run_marks }

-- records describe its catalogue, and its run is the one after that which they tell
pub record IsInstalled (held : Held) (lanes : ℕ) (d : RegisterState) : Type 0 where
  pub kept : ℕ
  pub described : DescribesRegister held kept d.catalogue
  pub begins : d ≡ installed d.catalogue lanes (kept + 1)

abbrev pub last_run : ℕ
last_run = 2 ^ 22 - 1

-- the last run is kept, and no record of the register is at fault
pub record IsUsedUp (held : Held) : Type 0 where
  pub last : IsRun held last_run
  pub sound : (key : List ℕ) → IsRegisterFault held key → ⊥

-- the key that is named has the property
abbrev pub MatchFault : InstallFault → (List ℕ → Type 0) → Type 0
MatchFault (BadRecord key) P = P key.items
MatchFault RunsUsed P = Unit {0}
MatchFault NoMemory P = Unit {0}

-- where it is told that no run is left, this holds
abbrev pub MatchUsed : InstallFault → Type 0 → Type 0
MatchUsed (BadRecord key) P = Unit {0}
MatchUsed RunsUsed P = P
MatchUsed NoMemory P = Unit {0}

-- that no run is left is told, or memory ran out
abbrev pub TellsUsed : {A : Type 0} → Result A InstallFault → Type 0
TellsUsed (Ok r) = ⊥
TellsUsed (Err (BadRecord key)) = ⊥
TellsUsed (Err RunsUsed) = Unit {0}
TellsUsed (Err NoMemory) = Unit {0}

abbrev pub of_records : RecordFault → InstallFault
of_records (records.BadRecord key) = BadRecord key
of_records records.NoMemory = NoMemory
