-- The collections of a document: its objects in byte order of their ids, and the first fault.
use Rattle.std.specs.Prelude.{ℕ, List, Option, Some, None, Result, Ok, Err, codes}
use Rattle.std.specs.FinMap.{empty}
use Rattle.serde_json.specs.Data.{Data, Members, member, no_members}
use Rattle.json_trees.specs.Faults.{◌>>=◌}
use Rattle.documents.specs.Parts.Paths.{under}
use Rattle.documents.specs.Parts.Faults.{Fault, fault}
use Rattle.documents.specs.Parts.Items.{members_at}
use Rattle.documents.specs.declared.parts.faults.DocCause.TheVariants.{NotADocument}
use Rattle.documents.specs.Reader.Objects.{Datasets, Datatypes, Groups, dataset_at, datatype_at, group_at}

-- the members of an object, one after another
abbrev pub each_member : {M : Type 0} → (List ℕ → M → Data → Result M Fault) → M → Members → Result M Fault
each_member step m no_members = Ok m
each_member {M} step m (member id d ms) = step id m d >>= λ (more : M). each_member step more ms

-- a collection that may be absent, and one that must be there
abbrev pub part_at : {M : Type 0} → List ℕ → (List ℕ → M → Data → Result M Fault) → M → Option Data → Result M Fault
part_at path step m None = Ok m
part_at path step m (Some d) = members_at path d >>= λ (ms : Members). each_member step m ms

abbrev pub needed_at : {M : Type 0} → List ℕ → (List ℕ → M → Data → Result M Fault) → M → Option Data → Result M Fault
needed_at path step m None = Err (fault path NotADocument)
needed_at path step m (Some d) = members_at path d >>= λ (ms : Members). each_member step m ms

-- ---- datasets

abbrev pub dataset_step : List ℕ → Datasets → Data → Result Datasets Fault
dataset_step id m d = dataset_at (under (codes "datasets") id) id m d

unfoldable pub datasets_at : Option Data → Result Datasets Fault
datasets_at o = part_at (codes "datasets") dataset_step empty o

-- ---- committed datatypes

abbrev pub datatype_step : Data → List ℕ → Datatypes → Data → Result Datatypes Fault
datatype_step document id m d = datatype_at document (under (codes "datatypes") id) id m d

unfoldable pub datatypes_at : Data → Option Data → Result Datatypes Fault
datatypes_at document o = part_at (codes "datatypes") (datatype_step document) empty o

-- ---- groups

abbrev pub group_step : Data → List ℕ → Groups → Data → Result Groups Fault
group_step document id m d = group_at document (under (codes "groups") id) id m d

unfoldable pub groups_at : Data → Option Data → Result Groups Fault
groups_at document o = needed_at (codes "groups") (group_step document) empty o
