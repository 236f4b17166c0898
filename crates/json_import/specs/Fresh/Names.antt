-- The ids that the objects of a document take.
--     others l      the groups of a document but its root
--     behind id kind      the id of a kind with the next serial
--     names_of l root      the id for each text, where the document's root has this one
--     id_in names root text      the same; a text that no object has stands for the root
--     numbered_by kind_of last xs      the members of a list at the ids behind another
--     with_each m es, with_root m root x      a map with these at their ids
use Rattle.std.specs.Prelude.{ℕ, ◌+◌, List, [], ◌∷◌, Option, Some, None, unwrap_or}
use Rattle.std.specs.FinMap.{FinMap, empty, get, insert, keys, remove}
use Rattle.containers.specs.TextMaps.Keyed.{text_order}
use Rattle.object_ids.specs.IdOrder.{id_order}
use Rattle.object_ids.specs.IdValues.{Id}
use Rattle.object_ids.specs.declared.ids.Kind.{Kind}
use Rattle.object_ids.specs.declared.ids.Kind.TheVariants as kind
use Rattle.documents.specs.declared.reader.loaded.Group.{Group}
use Rattle.documents.specs.declared.reader.loaded.Loaded.{Loaded}
use Rattle.json_import.specs.declared.fresh.names.Naming.{Naming}

abbrev pub Names : Type 0
Names = FinMap text_order Id

abbrev pub others : Loaded → FinMap text_order Group
others l = remove l.groups l.root

-- ---- the ids

abbrev pub behind : Id → Kind → Id
behind id kind = record { kind = kind; domain = id.domain; run = id.run; serial = id.serial + 1 }

-- the last id that was taken, and the ids so far: one text more takes the id behind
abbrev pub name_next : Kind → Naming → List ℕ → Naming
name_next kind n text = record { last = behind n.last kind; names = insert n.names text (behind n.last kind) }

abbrev pub name_each : Kind → Naming → List (List ℕ) → Naming
name_each kind n [] = n
name_each kind n (text ∷ texts) = name_each kind (name_next kind n text) texts

abbrev pub root_named : List ℕ → Id → Naming
root_named text root = record { last = root; names = insert empty text root }

-- the other groups, then the datasets, then the datatypes, each collection in byte order
abbrev pub named : Loaded → Id → Naming
named l root =
    name_each kind.Datatype
    (name_each kind.Dataset
    (name_each kind.Group (root_named l.root root) (keys (others l)))
    (keys l.datasets))
    (keys l.datatypes)

abbrev pub names_of : Loaded → Id → Names
names_of l root = (named l root).names

-- where a text stands for an object
abbrev pub id_in : Names → Id → List ℕ → Id
id_in names root text = unwrap_or (get names text) root

-- ---- objects at ids

-- the members of a list at the ids behind another
abbrev pub numbered_by : {X : Type 0} → (X → Kind) → Id → List X → List (Id × X)
numbered_by kind_of last [] = []
numbered_by kind_of last (x ∷ xs) = (behind last (kind_of x), x) ∷ numbered_by kind_of (behind last (kind_of x)) xs

abbrev pub with_each : {X : Type 0} → FinMap id_order X → List (Id × X) → FinMap id_order X
with_each m [] = m
with_each m (e ∷ es) = with_each (insert m e.0 e.1) es

abbrev pub with_root : {X : Type 0} → FinMap id_order X → Id → Option X → FinMap id_order X
with_root m root None = m
with_root m root (Some x) = insert m root x
