-- The trees that spell links.
use Rattle.std.specs.Prelude.{ℕ, List, map, codes}
use Rattle.std.specs.FinMap.{FinMap, entries}
use Rattle.serde_json.specs.Data.{Data, array, object, string, member, no_members}
use Rattle.serde_json.specs.View.{items_of}
use Rattle.object_ids.specs.Ids.{text_of_id}
use Rattle.object_ids.specs.IdValues.{Id}
use Rattle.object_ids.specs.declared.ids.Kind.{Kind}
use Rattle.object_ids.specs.declared.ids.Kind.TheVariants.{Group, Dataset, Datatype}
use Rattle.shapes.specs.declared.printing.Form.{Form}
use Rattle.shapes.specs.declared.printing.Form.TheVariants.{Rest, Document}
use Rattle.containers.specs.TextMaps.Keyed.{text_order}
use Rattle.groups_links.specs.declared.target.LinkTo.{LinkTo}
use Rattle.groups_links.specs.declared.target.LinkTo.TheVariants.{Hard, Soft, External}

-- the collection in which an object of a kind stands
abbrev pub collection_of : Kind → List ℕ
collection_of Group = codes "groups"
collection_of Dataset = codes "datasets"
collection_of Datatype = codes "datatypes"

-- the key of an external link's file
abbrev pub file_key : Form → List ℕ
file_key Rest = codes "h5domain"
file_key Document = codes "file"

abbrev pub hard_tree : List ℕ → Id → Data
hard_tree title id =
    object (member (codes "class") (string (codes "H5L_TYPE_HARD"))
    (member (codes "collection") (string (collection_of id.kind))
    (member (codes "id") (string (text_of_id id))
    (member (codes "title") (string title) no_members))))

abbrev pub soft_tree : List ℕ → List ℕ → Data
soft_tree title path =
    object (member (codes "class") (string (codes "H5L_TYPE_SOFT"))
    (member (codes "h5path") (string path)
    (member (codes "title") (string title) no_members)))

abbrev pub external_tree : List ℕ → List ℕ → List ℕ → Form → Data
external_tree title path file form =
    object (member (codes "class") (string (codes "H5L_TYPE_EXTERNAL"))
    (member (file_key form) (string file)
    (member (codes "h5path") (string path)
    (member (codes "title") (string title) no_members))))

-- a link of a title, in one of the two forms
abbrev pub link_tree : List ℕ → LinkTo → Form → Data
link_tree title (Hard id) form = hard_tree title id
link_tree title (Soft path) form = soft_tree title path
link_tree title (External path file) form = external_tree title path file form

-- the list of some links, in byte order of their titles
abbrev pub links_list : FinMap text_order LinkTo → Form → Data
links_list links form = array (items_of (map (λ e. link_tree e.0 e.1 form) (entries links)))
