-- The objects of a document, one at a time: the first fault in the stated order.
use Rattle.std.specs.Prelude.{ℕ, List, Bool, not, ◌&&◌, length, nat_lt, nat_le, Result, Ok, Err, codes, if◌then◌else◌}
use Rattle.std.specs.FinMap.{FinMap, insert}
use Rattle.serde_json.specs.Data.{Data, Members}
use Rattle.serde_json.specs.Find.{get}
use Rattle.json_trees.specs.Faults.{◌>>=◌}
use Rattle.containers.specs.TextMaps.Keyed.{text_order}
use Rattle.hdf_types.specs.Elems.{Elem}
use Rattle.chunk_store.specs.Grids.{Grid}
use Rattle.attributes.specs.AttributeMaps.{AttributeMap}
use Rattle.documents.specs.Parts.Paths.{under}
use Rattle.documents.specs.Parts.Faults.{Fault, fault}
use Rattle.documents.specs.Parts.Items.{members_at}
use Rattle.documents.specs.Parts.Ids.{has_id}
use Rattle.documents.specs.Parts.AttributeLists.{attributes_at}
use Rattle.documents.specs.Parts.TitleMaps.{TargetMap}
use Rattle.documents.specs.Parts.LinkLists.{links_at}
use Rattle.documents.specs.Parts.Arrays.{array_at}
use Rattle.documents.specs.Parts.Types.{kind_at}
use Rattle.documents.specs.declared.parts.faults.DocCause.TheVariants.{NotADocument}
use Rattle.documents.specs.declared.reader.loaded.Group.{Group}
use Rattle.documents.specs.declared.reader.loaded.Dataset.{Dataset}
use Rattle.documents.specs.declared.reader.loaded.Datatype.{Datatype}

abbrev pub Groups : Type 0
Groups = FinMap text_order Group

abbrev pub Datasets : Type 0
Datasets = FinMap text_order Dataset

abbrev pub Datatypes : Type 0
Datatypes = FinMap text_order Datatype

-- ---- ids

-- 1 to 255 bytes
abbrev pub is_length : List ℕ → Bool
is_length id = nat_lt 0 (length id) && nat_le (length id) 255

-- no dataset has the id
abbrev pub is_new_type : List ℕ → Data → Bool
is_new_type id document = is_length id && not (has_id (codes "datasets") id document)

-- no dataset and no datatype has it
abbrev pub is_new_group : List ℕ → Data → Bool
is_new_group id document = is_new_type id document && not (has_id (codes "datatypes") id document)

-- ---- parts

abbrev pub attributes_of : List ℕ → Data → Result AttributeMap Fault
attributes_of path d = attributes_at (under path (codes "attributes")) (get (codes "attributes") d)

abbrev pub links_of : Data → List ℕ → Data → Result TargetMap Fault
links_of document path d = links_at document (under path (codes "links")) (get (codes "links") d)

-- ---- one object more

unfoldable pub dataset_at : List ℕ → List ℕ → Datasets → Data → Result Datasets Fault
dataset_at path id datasets d =
    if is_length id
    then (members_at path d >>= λ (ms : Members).
    attributes_of path d >>= λ (attributes : AttributeMap).
    array_at path d >>= λ (array : Grid).
    Ok (insert datasets id (record { attributes = attributes; array = array })))
    else Err (fault path NotADocument)

unfoldable pub datatype_at : Data → List ℕ → List ℕ → Datatypes → Data → Result Datatypes Fault
datatype_at document path id datatypes d =
    if is_new_type id document
    then (members_at path d >>= λ (ms : Members).
    attributes_of path d >>= λ (attributes : AttributeMap).
    kind_at path (get (codes "type") d) >>= λ (kind : Elem).
    Ok (insert datatypes id (record { attributes = attributes; kind = kind })))
    else Err (fault path NotADocument)

unfoldable pub group_at : Data → List ℕ → List ℕ → Groups → Data → Result Groups Fault
group_at document path id groups d =
    if is_new_group id document
    then (members_at path d >>= λ (ms : Members).
    attributes_of path d >>= λ (attributes : AttributeMap).
    links_of document path d >>= λ (links : TargetMap).
    Ok (insert groups id (record { attributes = attributes; links = links })))
    else Err (fault path NotADocument)
