-- The tests over a bare tree and the values that are kept beside it: those over the whole tree, but for where a value stands.
use Rattle.std.specs.Prelude.{◌≡◌, ℕ, List, [], Option, Result, Ok, Err, codes, if◌then◌else◌, option_and_then, ⊤}
use Rattle.std.specs.FinMap as map
use Rattle.serde_json.specs.Data.{Data, Members}
use Rattle.serde_json.specs.Find.{get}
use Rattle.serde_json.specs.View.{view}
use Rattle.json_trees.specs.Faults.{◌>>=◌}
use Rattle.json_trees.specs.Trees.{text_at}
use Rattle.json_trees.specs.declared.kept.fault.ReadFault.{ReadFault}
use Rattle.json_trees.specs.declared.kept.fault.ReadFault.TheVariants as reading
use Rattle.chunk_store.specs.Grids.{Grid}
use Rattle.attributes.specs.AttributeMaps.{AttributeMap}
use Rattle.documents.specs.Parts.Arrays.{array_with}
use Rattle.documents.specs.Parts.Faults.{Fails, Fault, Tells, fault}
use Rattle.documents.specs.Parts.Items.{members_at}
use Rattle.documents.specs.Parts.Paths.{under}
use Rattle.documents.specs.declared.parts.faults.DocCause.TheVariants.{BadJson, NotADocument}
use Rattle.documents.specs.declared.parts.faults.DocFault.{DocFault}
use Rattle.documents.specs.declared.parts.faults.DocFault.TheVariants.{NoMemory}
use Rattle.documents.specs.Reader.Bare.{Values}
use Rattle.documents.specs.Reader.Collections.{datatypes_at, groups_at, part_at}
use Rattle.documents.specs.Reader.Documents.{root_at, tree_doc, version_at}
use Rattle.documents.specs.Reader.Objects.{Datasets, Datatypes, Groups, attributes_of, is_length}
use Rattle.documents.specs.Reader.Texts.{json_at}
use Rattle.documents.specs.declared.reader.bare_documents.BareDocument.{BareDocument}
use Rattle.documents.specs.declared.reader.loaded.Loaded.{Loaded}

-- the value that is kept for an id
abbrev pub kept_at : Values → List ℕ → Option Data
kept_at values id = option_and_then (λ o. o) (map.get values id)

unfoldable pub dataset_with : Option Data → List ℕ → List ℕ → Datasets → Data → Result Datasets Fault
dataset_with value path id datasets d =
    if is_length id
    then (members_at path d >>= λ (ms : Members).
    attributes_of path d >>= λ (attributes : AttributeMap).
    array_with path value d >>= λ (array : Grid).
    Ok (map.insert datasets id (record { attributes = attributes; array = array })))
    else Err (fault path NotADocument)

abbrev pub kept_step : Values → List ℕ → Datasets → Data → Result Datasets Fault
kept_step values id m d = dataset_with (kept_at values id) (under (codes "datasets") id) id m d

unfoldable pub datasets_with : Values → Option Data → Result Datasets Fault
datasets_with values o = part_at (codes "datasets") (kept_step values) map.empty o

unfoldable pub tree_with : Values → Data → Result Loaded Fault
tree_with values tree =
    members_at [] tree >>= λ (ms : Members).
    version_at (get (codes "apiVersion") tree) >>= λ (v : ⊤).
    datasets_with values (get (codes "datasets") tree) >>= λ (datasets : Datasets).
    datatypes_at tree (get (codes "datatypes") tree) >>= λ (datatypes : Datatypes).
    groups_at tree (get (codes "groups") tree) >>= λ (groups : Groups).
    root_at groups (text_at (codes "root") tree) >>= λ (root : List ℕ).
    Ok (record { root = root; groups = groups; datasets = datasets; datatypes = datatypes })

-- a call gives a tree and values of which the tests find this, or it fails
abbrev pub IsReadAs : Result BareDocument DocFault → Result Loaded Fault → Type 0
IsReadAs (Ok document) r = tree_with document.values (view document.tree) ≡ r
IsReadAs (Err e) r = Fails e r

-- what a text that is short enough is read as, or its first fault
abbrev pub json_doc : List ℕ → Result Loaded Fault
json_doc text = json_at text >>= λ (tree : Data). tree_doc tree

-- why a text was not read, as a fault of the document
abbrev pub IsReadTold : ReadFault → DocFault → Type 0
IsReadTold reading.NoMemory e = e ≡ NoMemory
IsReadTold reading.NotJson e = Tells e (fault [] BadJson)
