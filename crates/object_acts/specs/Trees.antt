-- The trees of objects.
use Rattle.std.specs.Prelude.{ℕ, codes}
use Rattle.std.specs.FinMap.{len}
use Rattle.serde_json.specs.Data.{Data, unsigned, object, string, number, member, no_members}
use Rattle.object_ids.specs.Ids.{text_of_id}
use Rattle.object_ids.specs.IdValues.{Id}
use Rattle.hdf_types.specs.Elems.{Elem}
use Rattle.hdf_types.specs.Views.{elem}
use Rattle.hdf_types.specs.Printed.{type_tree}
use Rattle.shapes.specs.declared.printing.Form.TheVariants.{Rest}
use Rattle.shapes.specs.Printed.{shape_tree}
use Rattle.chunk_store.specs.Grids.{Grid}
use Rattle.object_acts.specs.Arrays.Creation.{creation_tree}
use Rattle.object_acts.specs.declared.objects.Object.{Object}
use Rattle.object_acts.specs.declared.objects.Body.{Body}
use Rattle.object_acts.specs.declared.objects.Body.TheVariants.{Group, Dataset, Datatype}

abbrev pub group_tree : Id → Id → ℕ → ℕ → Data
group_tree id root attributes links =
    object (member (codes "attributeCount") (number (unsigned attributes)) (member (codes "id") (string (text_of_id id))
    (member (codes "linkCount") (number (unsigned links)) (member (codes "root") (string (text_of_id root)) no_members))))

abbrev pub dataset_tree : Id → Id → ℕ → Grid → Data
dataset_tree id root attributes g =
    object (member (codes "attributeCount") (number (unsigned attributes)) (member (codes "creationProperties") (creation_tree g)
    (member (codes "id") (string (text_of_id id)) (member (codes "root") (string (text_of_id root))
    (member (codes "shape") (shape_tree g.shape Rest) (member (codes "type") (type_tree g.kind) no_members))))))

abbrev pub datatype_tree : Id → Id → ℕ → Elem → Data
datatype_tree id root attributes e =
    object (member (codes "attributeCount") (number (unsigned attributes)) (member (codes "id") (string (text_of_id id))
    (member (codes "root") (string (text_of_id root)) (member (codes "type") (type_tree e) no_members))))

abbrev pub body_tree : Id → Id → ℕ → Body → Data
body_tree id root attributes (Group links) = group_tree id root attributes (len links)
body_tree id root attributes (Dataset array) = dataset_tree id root attributes array.grid
body_tree id root attributes (Datatype type) = datatype_tree id root attributes (elem type)

-- an object at an id, in a domain with this root
abbrev pub object_tree : Id → Id → Object → Data
object_tree id root o = body_tree id root (len o.attributes) o.body
