-- The bodies of objects' records.
use Rattle.std.specs.Prelude.{◌≡◌, ℕ, List, true, Option, None, option_map, option_and_then, if◌then◌else◌, codes}
use Rattle.std.specs.Str.{is_utf8}
use Rattle.serde_json.specs.Data.{Data, object, member, no_members}
use Rattle.serde_json.specs.Find.{get}
use Rattle.serde_json.specs.Read.{read}
use Rattle.serde_json.specs.Written.{compact_text}
use Rattle.object_ids.specs.declared.ids.Kind.{Kind}
use Rattle.object_ids.specs.declared.ids.Kind.TheVariants as kind
use Rattle.hdf_types.specs.Elems.{Elem}
use Rattle.hdf_types.specs.Reading.{size_of, type_of}
use Rattle.hdf_types.specs.Types.{IsSoundType}
use Rattle.hdf_types.specs.Views.{elem}
use Rattle.hdf_types.specs.Printed.{type_tree}
use Rattle.shapes.specs.Printed.{shape_tree}
use Rattle.shapes.specs.Shapes.{dims_of, shape_of}
use Rattle.shapes.specs.declared.printing.Form.TheVariants.{Document}
use Rattle.attributes.specs.AttributeTrees.{attributes_list}
use Rattle.groups_links.specs.GroupLinks.{AreLinks}
use Rattle.groups_links.specs.Printed.{links_list}
use Rattle.chunk_layout.specs.Layouts.{Fits}
use Rattle.chunk_store.specs.Grids.{IsWhole, all_fill}
use Rattle.chunk_store.specs.Marks.{state}
use Rattle.object_acts.specs.Arrays.Creation.{creation_tree}
use Rattle.object_acts.specs.declared.objects.Object.{Object}
use Rattle.object_acts.specs.declared.objects.Body.{Body}
use Rattle.object_acts.specs.declared.objects.Body.TheVariants.{Group, Dataset, Datatype}
use Rattle.object_records.specs.Entries.{Entry, Kept, group, dataset, datatype}
use Rattle.object_records.specs.Creations.{creation_in}
use Rattle.object_records.specs.Lists.{attributes_in, links_in, no_fault}

-- ---- the tree of an object: its entry in a document of the HDF5/JSON specification, without the cells of a dataset

abbrev pub group_tree : Data → Data → Data
group_tree attributes links = object (member (codes "attributes") attributes (member (codes "links") links no_members))

abbrev pub dataset_tree : Data → Data → Data → Data → Data
dataset_tree attributes creation shape type =
    object (member (codes "attributes") attributes (member (codes "creationProperties") creation (member (codes "shape") shape (member (codes "type") type no_members))))

abbrev pub datatype_tree : Data → Data → Data
datatype_tree attributes type = object (member (codes "attributes") attributes (member (codes "type") type no_members))

abbrev pub body_tree : Data → Body → Data
body_tree attributes (Group links) = group_tree attributes (links_list links Document)
body_tree attributes (Dataset array) = dataset_tree attributes (creation_tree array.grid) (shape_tree array.grid.shape Document) (type_tree array.grid.kind)
body_tree attributes (Datatype type) = datatype_tree attributes (type_tree (elem type))

abbrev pub object_tree : Object → Data
object_tree o = body_tree (attributes_list o.attributes Document true) o.body

-- the body of an object's record: the text of its tree without a space
unfoldable pub object_body : Object → List ℕ
object_body o = compact_text (object_tree o)

-- ---- what a tree spells

-- the type at its key
abbrev pub type_in : Data → Option Elem
type_in d = option_and_then (λ tree. no_fault (type_of tree)) (get (codes "type") d)

abbrev pub dataset_in : Data → Option Kept
dataset_in d =
    option_and_then (λ e. option_and_then (λ s. option_map (λ p. dataset e s p.0 p.1) (creation_in e s (get (codes "creationProperties") d)))
    (no_fault (shape_of (get (codes "shape") d) None))) (type_in d)

abbrev pub kept_in : Kind → Data → Option Kept
kept_in kind.Group d = option_map group (links_in (get (codes "links") d))
kept_in kind.Dataset d = dataset_in d
kept_in kind.Datatype d = option_map datatype (type_in d)

-- the object of a kind that an object of JSON spells; other keys don't matter
abbrev pub object_in : Kind → Data → Option Entry
object_in k d =
    option_and_then (λ attributes. option_map (λ kept. record { attributes = attributes; kept = kept }) (kept_in k d)) (attributes_in (get (codes "attributes") d))

-- only what is a JSON object has keys
abbrev pub spelled_in : Kind → Data → Option Entry
spelled_in k (object ms) = object_in k (object ms)
spelled_in k d = None

-- what a body reads as
abbrev pub object_of_body : Kind → List ℕ → Option Entry
object_of_body k body = if is_utf8 body then option_and_then (spelled_in k) (read body) else None

-- ---- what is true of every object: each part can be spelled

abbrev pub IsKeptBody : Body → Type 0
IsKeptBody (Group links) = AreLinks links
IsKeptBody (Dataset array) = IsWhole array.grid × Fits (size_of array.grid.kind) (dims_of array.grid.shape) array.grid.chunk
IsKeptBody (Datatype type) = IsSoundType (elem type)

-- ---- what was read

-- each cell of an array has the fill, and nothing is known of its chunks
abbrev pub IsFresh : Body → Type 0
IsFresh (Group links) = Unit {0}
IsFresh (Dataset array) = (array.grid ≡ all_fill array.grid.kind array.grid.shape array.grid.chunk array.grid.fill) × ((i : List ℕ) → state array i ≡ None)
IsFresh (Datatype type) = Unit {0}
