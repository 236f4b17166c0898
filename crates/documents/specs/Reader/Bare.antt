-- The bare tree of a document: null stands in place of each dataset's value, and of what nobody asks for; the values are kept apart.
use Rattle.std.specs.Prelude.{◌≡◌, ◌||◌, ℕ, List, Bool, true, false, Option, Some, None, codes, if◌then◌else◌}
use Rattle.std.specs.FinMap as map
use Rattle.std.specs.Str.{bytes_eq}
use Rattle.serde_json.specs.Data.{Data, null, boolean, number, string, array, object, Members, no_members, member, put}
use Rattle.serde_json.specs.Find.{get}
use Rattle.serde_json.specs.View.{view}
use Rattle.containers.specs.TextMaps.Keyed.{text_order}
use Rattle.documents.specs.declared.reader.bare_datasets.BareDataset.{BareDataset}
use Rattle.documents.specs.declared.reader.bare_datasets.BareDatasets.{BareDatasets}
use Rattle.documents.specs.declared.reader.bare_documents.BareDocument.{BareDocument}

-- ---- trees

-- each member, changed by its key
abbrev pub each_changed : (List ℕ → Data → Data) → Members → Members
each_changed f no_members = no_members
each_changed f (member k d ms) = member k (f k d) (each_changed f ms)

-- an object with its members changed; what is no object is null
abbrev pub changed_in : (List ℕ → Data → Data) → Data → Data
changed_in f null = null
changed_in f (boolean b) = null
changed_in f (number n) = null
changed_in f (string s) = null
changed_in f (array ds) = null
changed_in f (object ms) = object (each_changed f ms)

-- the keys of a dataset, besides that of its value
abbrev pub is_dataset_key : List ℕ → Bool
is_dataset_key key = bytes_eq key (codes "attributes") || bytes_eq key (codes "type") || bytes_eq key (codes "shape") || bytes_eq key (codes "creationProperties")

abbrev pub bare_member : List ℕ → Data → Data
bare_member key d = if is_dataset_key key then d else null

abbrev pub bare_dataset : List ℕ → Data → Data
bare_dataset id d = changed_in bare_member d

-- the keys of a document, besides that of its datasets
abbrev pub is_document_key : List ℕ → Bool
is_document_key key = bytes_eq key (codes "apiVersion") || bytes_eq key (codes "datatypes") || bytes_eq key (codes "groups") || bytes_eq key (codes "root")

abbrev pub bare_part : List ℕ → Data → Data
bare_part key d = if bytes_eq key (codes "datasets") then changed_in bare_dataset d else (if is_document_key key then d else null)

abbrev pub bare_document : Data → Data
bare_document d = changed_in bare_part d

-- ---- values

-- what stands at each id: the value of its dataset, where it has one
abbrev pub Values : Type 0
Values = map.FinMap text_order (Option Data)

-- at the id of each of the datasets stands its value
abbrev pub AreKept : Values → Members → Type 0
AreKept values no_members = Unit {0}
AreKept values (member id d ms) = (map.get values id ≡ Some (get (codes "value") d)) × AreKept values ms

abbrev pub AreValuesIn : Values → Data → Type 0
AreValuesIn values null = Unit {0}
AreValuesIn values (boolean b) = Unit {0}
AreValuesIn values (number n) = Unit {0}
AreValuesIn values (string s) = Unit {0}
AreValuesIn values (array ds) = Unit {0}
AreValuesIn values (object ms) = AreKept values ms

abbrev pub AreValuesAt : Values → Option Data → Type 0
AreValuesAt values None = Unit {0}
AreValuesAt values (Some d) = AreValuesIn values d

-- ---- what is read

-- a dataset without its value, and the value
pub record IsBareDataset (d : Data) (x : BareDataset) : Type 0 where
  pub tree : view x.tree ≡ changed_in bare_member d
  pub value : x.value ≡ get (codes "value") d

-- the datasets without their values, and these
pub record IsBareDatasets (d : Data) (x : BareDatasets) : Type 0 where
  pub tree : view x.tree ≡ changed_in bare_dataset d
  pub values : AreValuesIn x.values d

-- a document without the values of its datasets, and these
pub record IsBare (d : Data) (x : BareDocument) : Type 0 where
  pub tree : view x.tree ≡ bare_document d
  pub values : AreValuesAt x.values (get (codes "datasets") d)

-- the values where the member at this key is read
abbrev pub AreValuesBy : Bool → Data → Values → Values → Type 0
AreValuesBy true d old new = AreValuesIn new d
AreValuesBy false d old new = new ≡ old

-- a member that was read is put into the bare tree; with the datasets come their values
pub record PutsPart (key : List ℕ) (d : Data) (before after : Members) (old new : Values) : Type 0 where
  pub tree : after ≡ put key (bare_part key d) before
  pub values : AreValuesBy (bytes_eq key (codes "datasets")) d old new
