-- What is printed of the parts of a document that was read, and of the whole under fresh ids, is read as the same again.
use Rattle.std.specs.Prelude.{◌≡◌, ◌≢◌, ℕ, ◌+◌, ◌^◌, ◌<◌, true, List, ◌∷◌, map, Option, Some, None, Ok}
use Rattle.std.specs.FinMap.{get, keys}
use Rattle.serde_json.specs.Data.{Data}
use Rattle.object_ids.specs.IdValues.{Id}
use Rattle.object_ids.specs.Ids.{InRange, text_of_id}
use Rattle.object_ids.specs.declared.ids.Kind.TheVariants as kind
use Rattle.hdf_types.specs.Elems.{Elem}
use Rattle.hdf_types.specs.Printed.{type_tree}
use Rattle.hdf_types.specs.Types.{IsSoundType}
use Rattle.shapes.specs.Printed.{shape_tree}
use Rattle.shapes.specs.Shapes.{IsShape}
use Rattle.shapes.specs.declared.Shape.{Shape}
use Rattle.shapes.specs.declared.printing.Form.TheVariants.{Document}
use Rattle.hdf_values.specs.Attributes.{IsTypeAt}
use Rattle.hdf_values.specs.Shaped.{value_from, value_tree}
use Rattle.attributes.specs.AttributeMaps.{AttributeMap}
use Rattle.attributes.specs.AttributeTrees.{attributes_list}
use Rattle.chunk_store.specs.Grids.{Grid}
use Rattle.object_acts.specs.Arrays.Creation.{creation_tree}
use Rattle.object_acts.specs.declared.objects.Object.{Object}
use Rattle.documents.specs.Parts.Spelled.{AreAttributesAt, IsArray}
use Rattle.documents.specs.Reader.Loads.{Loads}
use Rattle.documents.specs.declared.reader.loaded.Loaded.{Loaded}
use Rattle.documents.specs.Domains.Documents.{document_tree}
use Rattle.documents.specs.Domains.Entries.{cells_tree, dataset_tree}
use Rattle.documents.specs.declared.domains.home.Home.{Home}
use Rattle.json_import.specs.Fresh.Names.{names_of, others}
use Rattle.json_import.specs.Fresh.Renamed.{objects_put, other_count}
use Rattle.json_import.specs.RoundTrips.Loaded.{AreSound, loaded_from}
use Rattle.json_import.specs.RoundTrips.Renamed.{renamed, text_in}
use Rattle.object_acts.specs.Objects.{Objects}

-- ---- parts

abbrev pub TypesReadBack : Type 0
TypesReadBack = (read : Option Data) (e : Elem) → IsTypeAt read e → IsTypeAt (Some (type_tree e)) e

abbrev pub ShapesReadBack : Type 0
ShapesReadBack = (read : Option Data) (s : Shape) → IsShape read None s → IsShape (Some (shape_tree s Document)) None s

-- the bytes of a value: texts may have lost what fills them up, and need not be UTF-8
abbrev pub ValuesReadBack : Type 0
ValuesReadBack = (e : Elem) (s : Shape) (read : Data) (bytes : List ℕ) → IsSoundType e
    → value_from e s read ≡ Ok bytes → value_from e s (value_tree e s bytes) ≡ Ok bytes

abbrev pub AttributesReadBack : Type 0
AttributesReadBack = (read : Option Data) (m : AttributeMap) → AreAttributesAt read m
    → AreAttributesAt (Some (attributes_list m Document true)) m

-- the type, the shape, the chunk, the fill and the cells, whether a value was given or not
abbrev pub ArraysReadBack : Type 0
ArraysReadBack = (read attributes : Data) (g : Grid) → IsArray read g
    → IsArray (dataset_tree attributes (creation_tree g) (shape_tree g.shape Document) (type_tree g.kind) (cells_tree g)) g

-- ---- documents

-- a domain with the number that its root's id has
abbrev pub home_of : Id → Home
home_of root = record { number = root.domain; root = root }

-- the id is a group's, and it and so many ids behind it are ones that an `ObjectId` can be
pub record HasRoom (root : Id) (many : ℕ) : Type 0 where
  pub group : root.kind ≡ kind.Group
  pub range : InRange root
  pub left : root.serial + many < 2 ^ 40

-- nothing is held of its domain
abbrev pub IsAlone : Id → Objects → Type 0
IsAlone root m = (q : Id) (o : Object) → get m q ≡ Some o → q.domain ≢ root.domain

-- what a document holds, put at fresh ids beside whatever objects: the document of the new domain holds it under these ids
abbrev pub DocumentsReadBack : Type 0
DocumentsReadBack = (tree : Data) (l : Loaded) (root : Id) (m : Objects) → Loads tree l → HasRoom root (other_count l) → IsAlone root m
    → Loads (document_tree (objects_put l root m) (home_of root)) (renamed l root)

-- so what a domain holds, exported, adopted and exported again, is the same under fresh ids
abbrev pub ExportsReadBack : Type 0
ExportsReadBack = (old : Objects) (h : Home) (root : Id) (m : Objects) → AreSound old h
    → HasRoom root (other_count (loaded_from old h)) → IsAlone root m
    → Loads (document_tree (objects_put (loaded_from old h) root m) (home_of root)) (renamed (loaded_from old h) root)

-- the texts of the fresh ids in byte order: the root's, then those of the others in the order of their texts
pub record AreInOrder (l : Loaded) (root : Id) : Type 0 where
  pub groups : keys (renamed l root).groups ≡ text_of_id root ∷ map (text_in (names_of l root) root) (keys (others l))
  pub datasets : keys (renamed l root).datasets ≡ map (text_in (names_of l root) root) (keys l.datasets)
  pub datatypes : keys (renamed l root).datatypes ≡ map (text_in (names_of l root) root) (keys l.datatypes)

abbrev pub TextsStayInOrder : Type 0
TextsStayInOrder = (tree : Data) (l : Loaded) (root : Id) → Loads tree l → HasRoom root (other_count l) → AreInOrder l root
