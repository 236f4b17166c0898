-- The records that a cut of a register appends; for private clauses.
use Rattle.std.specs.Prelude.{◌≡◌, ◌≢◌, ◌⊎◌, ℕ, List, [], ◌∷◌, ◌++◌, Bool, true, false, not, ◌&&◌, Option, Some, None}
use Rattle.std.specs.FinMap.{FinMap, contains_key, get}
use Rattle.std.specs.List.{AllByRecursion}
use Rattle.containers.specs.TextMaps.Keyed.{text_order}
use Rattle.flush_journal.specs.Records.{Record}
use Rattle.flush_journal.specs.Cuts.Cuts.{AddsRecord, AreOnce}
use Rattle.domains.specs.Contents.{Contents}
use Rattle.domains.specs.declared.classes.Node.{Node}
use Rattle.object_records.specs.Keys.Keys.{next_key, node_key, run_key}
use Rattle.object_records.specs.Keys.Numbers.{next_bytes, run_bytes}
use Rattle.domains.specs.Records.Nodes.{node_body, node_of_body}
use Rattle.register.specs.Marks.{Marked}

-- a record of the key is among these
abbrev pub IsAmong : List ℕ → List Record → Type 0
IsAmong key [] = ⊥
IsAmong key (r ∷ rs) = (r.0 ≡ key) ⊎ IsAmong key rs

-- right records, each once; where they are whole, one of each due key
pub record AreAdded (Right : Record → Type 0) (Due : List ℕ → Type 0) (whole : Bool) (added : List Record) : Type 0 where
  pub right : AllByRecursion Right added
  pub once : AreOnce added
  pub all : whole ≡ true → (key : List ℕ) → Due key → IsAmong key added

abbrev pub Adds : (Record → Type 0) → (List ℕ → Type 0) → Bool → List Record → List Record → Type 0
Adds Right Due whole old new = (added : List Record) × AreAdded Right Due whole added × (new ≡ old ++ added)

-- of one part or another
abbrev pub OfEither : {A : Type 0} → (A → Type 0) → (A → Type 0) → A → Type 0
OfEither P Q x = P x ⊎ Q x

-- ---- one record

abbrev pub IsRightOne : Bool → List ℕ → List ℕ → Record → Type 0
IsRightOne is_due key body r = (is_due ≡ true) × (r ≡ (key, body))

abbrev pub IsDueOne : Bool → List ℕ → List ℕ → Type 0
IsDueOne is_due key k = (is_due ≡ true) × (k ≡ key)

abbrev pub AddsOne : Bool → List ℕ → List ℕ → Bool → List Record → List Record → Type 0
AddsOne is_due key body = Adds (IsRightOne is_due key body) (IsDueOne is_due key)

-- those of the run and of the next domain's number
abbrev pub AddsNumbers : ℕ → Contents → Marked → Bool → List Record → List Record → Type 0
AddsNumbers run c m = Adds (OfEither (IsRightOne m.run run_key (run_bytes run)) (IsRightOne m.next next_key (next_bytes c.next)))
    (OfEither (IsDueOne m.run run_key) (IsDueOne m.next next_key))

-- ---- nodes

-- the body of the record of a node is the node's, and reads as the node; where none stands it is empty
abbrev pub IsNodeBody : Option Node → List ℕ → Type 0
IsNodeBody None body = body ≡ []
IsNodeBody (Some node) body = (node_of_body body ≡ Some node) × (body ≢ []) × (body ≡ node_body node)

abbrev pub AddsNode : Contents → List ℕ → List Record → List Record → Type 0
AddsNode c path old new = (body : List ℕ) × IsNodeBody (get c.nodes path) body × AddsRecord (node_key path, body) old new

-- where only missing nodes are wanted, none stands there
abbrev pub is_wanted : Contents → Bool → List ℕ → Bool
is_wanted c missing path = not (missing && contains_key c.nodes path)

abbrev pub AddsWanted : Bool → Contents → List ℕ → List Record → List Record → Type 0
AddsWanted true c path old new = AddsNode c path old new
AddsWanted false c path old new = new ≡ old

abbrev pub IsRightNode : Contents → (List ℕ → Bool) → Record → Type 0
IsRightNode c due r = (path : List ℕ) × (due path ≡ true) × (r.0 ≡ node_key path) × IsNodeBody (get c.nodes path) r.1

abbrev pub IsDueNode : (List ℕ → Bool) → List ℕ → Type 0
IsDueNode due key = (path : List ℕ) × (due path ≡ true) × (key ≡ node_key path)

abbrev pub AddsNodes : Contents → (List ℕ → Bool) → Bool → List Record → List Record → Type 0
AddsNodes c due = Adds (IsRightNode c due) (IsDueNode due)

-- the keys of a map that are wanted
abbrev pub is_key_wanted : {V : Type 0} → Contents → FinMap text_order V → Bool → List ℕ → Bool
is_key_wanted c keys missing path = contains_key keys path && is_wanted c missing path

-- all nodes, where all are marked
abbrev pub is_of_all : Contents → Marked → List ℕ → Bool
is_of_all c m path = m.all && is_key_wanted c c.nodes false path

-- marked paths, and where all nodes are marked only those where none stands
abbrev pub is_of_paths : Contents → Marked → List ℕ → Bool
is_of_paths c m path = is_key_wanted c m.paths m.all path

abbrev pub AddsAllNodes : Contents → Marked → Bool → List Record → List Record → Type 0
AddsAllNodes c m = Adds (OfEither (IsRightNode c (is_of_all c m)) (IsRightNode c (is_of_paths c m))) (OfEither (IsDueNode (is_of_all c m)) (IsDueNode (is_of_paths c m)))

-- ---- the whole

abbrev pub AddsRegister : ℕ → Contents → Marked → Bool → List Record → List Record → Type 0
AddsRegister run c m = Adds
    (OfEither (OfEither (IsRightOne m.run run_key (run_bytes run)) (IsRightOne m.next next_key (next_bytes c.next)))
    (OfEither (IsRightNode c (is_of_all c m)) (IsRightNode c (is_of_paths c m))))
    (OfEither (OfEither (IsDueOne m.run run_key) (IsDueOne m.next next_key)) (OfEither (IsDueNode (is_of_all c m)) (IsDueNode (is_of_paths c m))))
