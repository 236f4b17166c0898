-- Where the objects of a document stand.
use Rattle.std.specs.Prelude.{◌≡◌, ◌≢◌, ℕ, ◌+◌, ◌<◌, ◌≤◌, ◌⊎◌, List, ◌++◌, map, Some, None, IsSome}
use Rattle.std.specs.List.{range_with_len}
use Rattle.std.specs.FinMap.{FinMap, get, keys}
use Rattle.std.specs.declared.cmp.Ordering.TheVariants.{Less}
use Rattle.serde_json.specs.Data.{Data}
use Rattle.containers.specs.TextMaps.Keyed.{text_order}
use Rattle.object_ids.specs.IdOrder.{id_order}
use Rattle.object_ids.specs.IdValues.{Id}
use Rattle.object_ids.specs.declared.ids.Kind.{Kind}
use Rattle.object_ids.specs.declared.ids.Kind.TheVariants as kind
use Rattle.object_acts.specs.declared.objects.Object.{Object}
use Rattle.documents.specs.Reader.Loads.{Loads}
use Rattle.documents.specs.declared.reader.loaded.Group.{Group}
use Rattle.documents.specs.declared.reader.loaded.Dataset.{Dataset}
use Rattle.documents.specs.declared.reader.loaded.Datatype.{Datatype}
use Rattle.documents.specs.declared.reader.loaded.Loaded.{Loaded}
use Rattle.json_import.specs.Fresh.Names.{id_in, names_of, others}
use Rattle.json_import.specs.Fresh.Renamed.{dataset_object, datatype_object, group_object, kind_of, objects_put, other_count}

-- each text stands for one object, and the root's for a group
pub record StandForOne (l : Loaded) : Type 0 where
  pub root : IsSome (get l.groups l.root)
  pub datasets : (text : List ℕ) → IsSome (get l.groups text) → get l.datasets text ≡ None
  pub datatypes : (text : List ℕ) → IsSome (get l.groups text) → get l.datatypes text ≡ None
  pub types : (text : List ℕ) → IsSome (get l.datasets text) → get l.datatypes text ≡ None

-- the object of a text stands at the text's id
abbrev pub StandsAt : Loaded → Id → FinMap id_order Object → List ℕ → Object → Type 0
StandsAt l root m text o = get (objects_put l root m) (id_in (names_of l root) root text) ≡ Some o

abbrev pub GroupsStand : Type 0
GroupsStand = (l : Loaded) (root : Id) (m : FinMap id_order Object) → StandForOne l → (text : List ℕ) (g : Group) → get l.groups text ≡ Some g
    → StandsAt l root m text (group_object (names_of l root) root g)

abbrev pub DatasetsStand : Type 0
DatasetsStand = (l : Loaded) (root : Id) (m : FinMap id_order Object) → StandForOne l → (text : List ℕ) (d : Dataset) → get l.datasets text ≡ Some d
    → StandsAt l root m text (dataset_object d)

abbrev pub DatatypesStand : Type 0
DatatypesStand = (l : Loaded) (root : Id) (m : FinMap id_order Object) → StandForOne l → (text : List ℕ) (t : Datatype) → get l.datatypes text ≡ Some t
    → StandsAt l root m text (datatype_object t)

-- the root's text stands for the root's id
abbrev pub RootStands : Type 0
RootStands = (l : Loaded) (root : Id) → StandForOne l → id_in (names_of l root) root l.root ≡ root

-- other domains' objects stay
abbrev pub OthersStay : Type 0
OthersStay = (l : Loaded) (root : Id) (m : FinMap id_order Object) (q : Id) → q.domain ≢ root.domain → get (objects_put l root m) q ≡ get m q

-- a text has an object, as a group, a dataset or a committed datatype
abbrev pub HasObject : Loaded → Id → List ℕ → Object → Type 0
HasObject l root text o =
    ((g : Group) × (get l.groups text ≡ Some g) × (o ≡ group_object (names_of l root) root g))
    ⊎ (((d : Dataset) × (get l.datasets text ≡ Some d) × (o ≡ dataset_object d))
    ⊎ ((t : Datatype) × (get l.datatypes text ≡ Some t) × (o ≡ datatype_object t)))

-- an id of a kind, in the domain and the run of the root, whose serial is the root's or one of so many behind it
pub record IsFresh (root : Id) (many : ℕ) (kind : Kind) (id : Id) : Type 0 where
  pub same_kind : id.kind ≡ kind
  pub domain : id.domain ≡ root.domain
  pub run : id.run ≡ root.run
  pub from : root.serial ≤ id.serial
  pub within : id.serial ≤ root.serial + many

-- each object's text stands for such an id of its kind
abbrev pub IdsAreFresh : Type 0
IdsAreFresh = (l : Loaded) (root : Id) → root.kind ≡ kind.Group → StandForOne l → (text : List ℕ) (o : Object) → HasObject l root text o
    → IsFresh root (other_count l) (kind_of o) (id_in (names_of l root) root text)

-- no two texts with objects stand for one id
abbrev pub IdsAreDistinct : Type 0
IdsAreDistinct = (l : Loaded) (root : Id) → StandForOne l → (s t : List ℕ) (o p : Object) → HasObject l root s o → HasObject l root t p
    → id_in (names_of l root) root s ≡ id_in (names_of l root) root t → s ≡ t

-- the texts of the objects but the root: those of the other groups, of the datasets and of the datatypes, each in byte order
abbrev pub other_texts : Loaded → List (List ℕ)
other_texts l = keys (others l) ++ (keys l.datasets ++ keys l.datatypes)

-- in this order their serials are the numbers behind the root's, one after another
abbrev pub SerialsRun : Type 0
SerialsRun = (l : Loaded) (root : Id) → StandForOne l
    → map (λ text. (id_in (names_of l root) root text).serial) (other_texts l) ≡ range_with_len (root.serial + 1) (other_count l)

-- two texts of one collection, of which no one is the root's
abbrev pub AreOfOne : Loaded → List ℕ → List ℕ → Type 0
AreOfOne l s t =
    (IsSome (get (others l) s) × IsSome (get (others l) t))
    ⊎ ((IsSome (get l.datasets s) × IsSome (get l.datasets t))
    ⊎ (IsSome (get l.datatypes s) × IsSome (get l.datatypes t)))

-- so texts of one collection in byte order stand for ids with rising serials
abbrev pub SerialsRise : Type 0
SerialsRise = (l : Loaded) (root : Id) → StandForOne l → (s t : List ℕ) → AreOfOne l s t → text_order s t ≡ Less
    → (id_in (names_of l root) root s).serial < (id_in (names_of l root) root t).serial

-- and the other groups stand behind the root
abbrev pub RootIsFirst : Type 0
RootIsFirst = (l : Loaded) (root : Id) → StandForOne l → (text : List ℕ) → IsSome (get (others l) text)
    → root.serial < (id_in (names_of l root) root text).serial

-- what stands at an id stood there before, or is the object of a text that stands for the id
abbrev pub NothingElseStands : Type 0
NothingElseStands = (l : Loaded) (root : Id) (m : FinMap id_order Object) → StandForOne l → (id : Id) (o : Object)
    → get (objects_put l root m) id ≡ Some o
    → (get m id ≡ Some o) ⊎ ((text : List ℕ) × (id_in (names_of l root) root text ≡ id) × HasObject l root text o)

-- each id for which a text stands is one of the domain, and has an object
abbrev pub IdsHaveObjects : Type 0
IdsHaveObjects = (l : Loaded) (root : Id) (m : FinMap id_order Object) → StandForOne l → (text : List ℕ)
    → ((id_in (names_of l root) root text).domain ≡ root.domain) × IsSome (get (objects_put l root m) (id_in (names_of l root) root text))

-- what is read from a document is so
abbrev pub DocumentsStandForOne : Type 0
DocumentsStandForOne = (document : Data) (l : Loaded) → Loads document l → StandForOne l
