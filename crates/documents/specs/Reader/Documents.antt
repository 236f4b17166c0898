-- Whole documents: what a text or a tree is read as, or its first fault.
use Rattle.std.specs.Prelude.{ℕ, List, [], Option, Some, None, Result, Ok, Err, codes, is_some, if◌then◌else◌, ⊤}
use Rattle.std.specs.FinMap.{contains_key}
use Rattle.serde_json.specs.Data.{Data, Members}
use Rattle.serde_json.specs.Find.{get, as_str}
use Rattle.json_trees.specs.Faults.{◌>>=◌}
use Rattle.json_trees.specs.Trees.{text_at}
use Rattle.documents.specs.Parts.Faults.{Fault, fault}
use Rattle.documents.specs.Parts.Items.{members_at}
use Rattle.documents.specs.declared.parts.faults.DocCause.TheVariants.{NotADocument}
use Rattle.documents.specs.Reader.Objects.{Datasets, Datatypes, Groups}
use Rattle.documents.specs.Reader.Collections.{datasets_at, datatypes_at, groups_at}
use Rattle.documents.specs.Reader.Texts.{text_tree}
use Rattle.documents.specs.declared.reader.loaded.Loaded.{Loaded}

-- the version, which any text is
unfoldable pub version_at : Option Data → Result ⊤ Fault
version_at None = Ok tt
version_at (Some d) = if is_some (as_str d) then Ok tt else Err (fault (codes "apiVersion") NotADocument)

-- the id of a group
abbrev pub root_at : Groups → Option (List ℕ) → Result (List ℕ) Fault
root_at groups None = Err (fault (codes "root") NotADocument)
root_at groups (Some id) = if contains_key groups id then Ok id else Err (fault (codes "root") NotADocument)

-- what a tree is read as, or its first fault
unfoldable pub tree_doc : Data → Result Loaded Fault
tree_doc tree =
    members_at [] tree >>= λ (ms : Members).
    version_at (get (codes "apiVersion") tree) >>= λ (v : ⊤).
    datasets_at (get (codes "datasets") tree) >>= λ (datasets : Datasets).
    datatypes_at tree (get (codes "datatypes") tree) >>= λ (datatypes : Datatypes).
    groups_at tree (get (codes "groups") tree) >>= λ (groups : Groups).
    root_at groups (text_at (codes "root") tree) >>= λ (root : List ℕ).
    Ok (record { root = root; groups = groups; datasets = datasets; datatypes = datatypes })

-- what a text is read as, or its first fault
abbrev pub doc_of : List ℕ → Result Loaded Fault
doc_of text = text_tree text >>= λ (tree : Data). tree_doc tree
