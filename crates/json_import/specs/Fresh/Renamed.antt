-- The objects of a document under fresh ids.
--     root_object l root, other_objects l root      the objects that the document's become, where its root has this id
--     objects_put l root m      a map with these objects at their ids
use Rattle.std.specs.Prelude.{ℕ, ◌+◌, List, ◌++◌, map, Option, option_map}
use Rattle.std.specs.FinMap.{FinMap, get, len, values}
use Rattle.containers.specs.TextMaps.Keyed.{text_order, with_values}
use Rattle.object_ids.specs.IdOrder.{id_order}
use Rattle.object_ids.specs.IdValues.{Id}
use Rattle.object_ids.specs.declared.ids.Kind.{Kind}
use Rattle.groups_links.specs.declared.target.LinkTo.{LinkTo}
use Rattle.groups_links.specs.declared.target.LinkTo.TheVariants as link
use Rattle.documents.specs.declared.parts.targets.Target.{Target}
use Rattle.documents.specs.declared.parts.targets.Target.TheVariants.{Hard, Soft, External}
use Rattle.documents.specs.declared.reader.loaded.Group.{Group}
use Rattle.documents.specs.declared.reader.loaded.Dataset.{Dataset}
use Rattle.documents.specs.declared.reader.loaded.Datatype.{Datatype}
use Rattle.documents.specs.declared.reader.loaded.Loaded.{Loaded}
use Rattle.object_acts.specs.declared.objects.Object.{Object}
use Rattle.object_acts.specs.declared.objects.Body.TheVariants as body
use Rattle.object_acts.specs.Objects.{bare, kind_of_body}
use Rattle.json_import.specs.Fresh.Names.{Names, id_in, names_of, numbered_by, others, with_each, with_root}
use Rattle.hdf_types.specs.Views.{elem_type}

-- ---- one object

-- a hard link leads to the fresh id, and each other link where it led
abbrev pub renamed_link : Names → Id → Target → LinkTo
renamed_link names root (Hard text) = link.Hard (id_in names root text)
renamed_link names root (Soft path) = link.Soft path
renamed_link names root (External path file) = link.External path file

abbrev pub group_object : Names → Id → Group → Object
group_object names root g = record { attributes = g.attributes; body = body.Group (with_values (renamed_link names root) g.links) }

abbrev pub dataset_object : Dataset → Object
dataset_object d = record { attributes = d.attributes; body = body.Dataset (bare d.array) }

abbrev pub datatype_object : Datatype → Object
datatype_object t = record { attributes = t.attributes; body = body.Datatype (elem_type t.kind) }

-- ---- the objects of a document

abbrev pub root_object : Loaded → Id → Option Object
root_object l root = option_map (group_object (names_of l root) root) (get l.groups l.root)

-- those that stand at fresh ids, in the order of these
abbrev pub objects_under : Names → Id → FinMap text_order Group → FinMap text_order Dataset → FinMap text_order Datatype → List Object
objects_under names root groups datasets datatypes =
    map (group_object names root) (values groups) ++ (map dataset_object (values datasets) ++ map datatype_object (values datatypes))

abbrev pub other_objects : Loaded → Id → List Object
other_objects l root = objects_under (names_of l root) root (others l) l.datasets l.datatypes

-- how many these are
abbrev pub other_count : Loaded → ℕ
other_count l = len (others l) + (len l.datasets + len l.datatypes)

-- ---- their ids

abbrev pub kind_of : Object → Kind
kind_of o = kind_of_body o.body

abbrev pub numbered : Id → List Object → List (Id × Object)
numbered = numbered_by kind_of

-- a map with the root at its id, and the others at those behind it
abbrev pub objects_put : Loaded → Id → FinMap id_order Object → FinMap id_order Object
objects_put l root m = with_each (with_root m root (root_object l root)) (numbered root (other_objects l root))
