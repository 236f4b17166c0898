-- The entry of one object in the document of a domain.
use Rattle.std.specs.Prelude.{ℕ, Bool, true, List, [], ◌∷◌, map, codes, Option, Some, None}
use Rattle.std.specs.FinMap.{entries}
use Rattle.std.specs.List.{filter}
use Rattle.serde_json.specs.Data.{Data, array, object, member, no_members}
use Rattle.serde_json.specs.View.{items_of}
use Rattle.hdf_types.specs.Printed.{type_tree}
use Rattle.hdf_types.specs.Views.{elem}
use Rattle.shapes.specs.Printed.{shape_tree}
use Rattle.shapes.specs.Shapes.{cells_of}
use Rattle.shapes.specs.declared.printing.Form.TheVariants.{Document}
use Rattle.hdf_values.specs.Shaped.{value_tree}
use Rattle.attributes.specs.AttributeTrees.{attributes_list}
use Rattle.groups_links.specs.Printed.{link_tree}
use Rattle.groups_links.specs.declared.target.LinkTo.{LinkTo}
use Rattle.groups_links.specs.declared.target.LinkTo.TheVariants.{Hard, Soft, External}
use Rattle.chunk_store.specs.Grids.{Grid, reads}
use Rattle.object_acts.specs.Arrays.Creation.{creation_tree}
use Rattle.object_acts.specs.declared.objects.Object.{Object}
use Rattle.object_acts.specs.declared.objects.Body.{Body}
use Rattle.object_acts.specs.declared.objects.Body.TheVariants.{Group, Dataset, Datatype}
use Rattle.object_records.specs.Objects.{datatype_tree, group_tree}
use Rattle.documents.specs.Domains.Domains.{is_there}
use Rattle.documents.specs.declared.domains.home.Home.{Home}
use Rattle.groups_links.specs.GroupLinks.{Titles}
use Rattle.object_acts.specs.Objects.{Objects}

-- ---- links

-- a hard link is shown where its target is an object of the domain, and any other always
abbrev pub is_shown : Objects → Home → LinkTo → Bool
is_shown m h (Hard id) = is_there m h id
is_shown m h (Soft path) = true
is_shown m h (External path file) = true

abbrev pub titled_tree : List ℕ × LinkTo → Data
titled_tree e = link_tree e.0 e.1 Document

-- those that are shown, in byte order of their titles
abbrev pub shown_links : Objects → Home → List (List ℕ × LinkTo) → List Data
shown_links m h es = map titled_tree (filter (λ e. is_shown m h e.1) es)

abbrev pub links_tree : Objects → Home → Titles → Data
links_tree m h links = array (items_of (shown_links m h (entries links)))

-- the one at a title, where there is one and it is shown
abbrev pub link_at : Objects → Home → List ℕ → Option LinkTo → List Data
link_at m h title None = []
link_at m h title (Some link) = shown_links m h ((title, link) ∷ [])

-- ---- cells

-- the value of an array: all its cells in row-major order, nested by the dims; without an axis one element, without a cell null
abbrev pub cells_tree : Grid → Data
cells_tree g = value_tree g.kind g.shape (reads g (cells_of g.shape))

abbrev pub dataset_tree : Data → Data → Data → Data → Data → Data
dataset_tree attributes creation shape type value =
    object (member (codes "attributes") attributes (member (codes "creationProperties") creation (member (codes "shape") shape
    (member (codes "type") type (member (codes "value") value no_members)))))

-- ---- objects

-- of a group the links that are shown; of a dataset how it was made, its shape, its type and its value; of a committed datatype its type
abbrev pub body_tree : Objects → Home → Data → Body → Data
body_tree m h attributes (Group links) = group_tree attributes (links_tree m h links)
body_tree m h attributes (Dataset stored) =
    let g = stored.grid in
    dataset_tree attributes (creation_tree g) (shape_tree g.shape Document) (type_tree g.kind) (cells_tree g)
body_tree m h attributes (Datatype type) = datatype_tree attributes (type_tree (elem type))

-- and of each its attributes, with their values
abbrev pub entry_tree : Objects → Home → Object → Data
entry_tree m h o = body_tree m h (attributes_list o.attributes Document true) o.body
