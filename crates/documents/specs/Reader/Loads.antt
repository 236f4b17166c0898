-- What a document holds, without an order of tests and without paths.
use Rattle.std.specs.Prelude.{◌≡◌, ℕ, ◌≤◌, List, true, false, length, Option, Some, None, IsSome, IsUtf8, codes}
use Rattle.std.specs.List.{AllZip}
use Rattle.std.specs.FinMap.{FinMap, empty, contains_key}
use Rattle.serde_json.specs.Data.{Data, Members}
use Rattle.serde_json.specs.Find.{get, as_object, as_str}
use Rattle.serde_json.specs.Read.{read}
use Rattle.json_trees.specs.Trees.{text_at, pairs_of}
use Rattle.containers.specs.TextMaps.Keyed.{text_order, with_entries}
use Rattle.hdf_values.specs.Attributes.{IsTypeAt}
use Rattle.documents.specs.Parts.Ids.{has_id}
use Rattle.documents.specs.Parts.Spelled.{AreAttributesAt, AreLinksAt, IsArray}
use Rattle.documents.specs.Reader.Objects.{is_length}
use Rattle.documents.specs.Reader.Texts.{most_bytes}
use Rattle.documents.specs.declared.reader.loaded.Group.{Group}
use Rattle.documents.specs.declared.reader.loaded.Dataset.{Dataset}
use Rattle.documents.specs.declared.reader.loaded.Datatype.{Datatype}
use Rattle.documents.specs.declared.reader.loaded.Loaded.{Loaded}

-- ---- objects

pub record IsDataset (id : List ℕ) (d : Data) (x : Dataset) : Type 0 where
  pub named : is_length id ≡ true
  pub object : IsSome (as_object d)
  pub attributes : AreAttributesAt (get (codes "attributes") d) x.attributes
  pub array : IsArray d x.array

pub record IsDatatype (document : Data) (id : List ℕ) (d : Data) (x : Datatype) : Type 0 where
  pub named : is_length id ≡ true
  pub no_dataset : has_id (codes "datasets") id document ≡ false
  pub object : IsSome (as_object d)
  pub attributes : AreAttributesAt (get (codes "attributes") d) x.attributes
  pub kind : IsTypeAt (get (codes "type") d) x.kind

pub record IsGroup (document : Data) (id : List ℕ) (d : Data) (x : Group) : Type 0 where
  pub named : is_length id ≡ true
  pub no_dataset : has_id (codes "datasets") id document ≡ false
  pub no_datatype : has_id (codes "datatypes") id document ≡ false
  pub object : IsSome (as_object d)
  pub attributes : AreAttributesAt (get (codes "attributes") d) x.attributes
  pub links : AreLinksAt document (get (codes "links") d) x.links

-- ---- collections

-- what a member spells stands at its key
abbrev pub IsMember : {X : Type 0} → (List ℕ → Data → X → Type 0) → List ℕ × Data → List ℕ × X → Type 0
IsMember R d x = (x.0 ≡ d.0) × R d.0 d.1 x.1

pub record AreMembers {X : Type 0} (R : List ℕ → Data → X → Type 0) (ms : Members) (m : FinMap text_order X) : Type 0 where
  pub pairs : List (List ℕ × X)
  pub each : AllZip (IsMember R) (pairs_of ms) pairs
  pub all : m ≡ with_entries empty pairs

abbrev pub IsCollection : {X : Type 0} → (List ℕ → Data → X → Type 0) → Option Members → FinMap text_order X → Type 0
IsCollection R None m = ⊥
IsCollection R (Some ms) m = AreMembers R ms m

-- a part that may be absent, and one that must be there
abbrev pub IsPart : {X : Type 0} → (List ℕ → Data → X → Type 0) → Option Data → FinMap text_order X → Type 0
IsPart R None m = m ≡ empty
IsPart R (Some d) m = IsCollection R (as_object d) m

abbrev pub IsNeeded : {X : Type 0} → (List ℕ → Data → X → Type 0) → Option Data → FinMap text_order X → Type 0
IsNeeded R None m = ⊥
IsNeeded R (Some d) m = IsCollection R (as_object d) m

-- ---- documents

abbrev pub IsVersion : Option Data → Type 0
IsVersion None = Unit {0}
IsVersion (Some d) = IsSome (as_str d)

-- the tree holds this
pub record Loads (tree : Data) (l : Loaded) : Type 0 where
  pub object : IsSome (as_object tree)
  pub version : IsVersion (get (codes "apiVersion") tree)
  pub datasets : IsPart IsDataset (get (codes "datasets") tree) l.datasets
  pub datatypes : IsPart (IsDatatype tree) (get (codes "datatypes") tree) l.datatypes
  pub groups : IsNeeded (IsGroup tree) (get (codes "groups") tree) l.groups
  pub root : text_at (codes "root") tree ≡ Some l.root
  pub there : contains_key l.groups l.root ≡ true

-- the text holds this
pub record LoadsText (text : List ℕ) (l : Loaded) : Type 0 where
  pub short : length text ≤ most_bytes
  pub utf8 : IsUtf8 text
  pub tree : Data
  pub reads : read text ≡ Some tree
  pub loads : Loads tree l
