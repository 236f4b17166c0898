-- Types as plain data, and lists of objects.
use Rattle.std.proofs.Common.{◌≡◌, ◌+◌, ◌++◌, map, length, sym, ap, ◌∙◌}
use Rattle.std.proofs.lemmas.List.{length-append, length-map}
use Rattle.std.specs.FinMap.{FinMap, entries, len, len-entries, values}
use Rattle.containers.specs.TextMaps.Keyed.{text_order}
use Rattle.object_ids.specs.IdValues.{Id}
use Rattle.documents.specs.declared.reader.loaded.Group.{Group}
use Rattle.documents.specs.declared.reader.loaded.Dataset.{Dataset}
use Rattle.documents.specs.declared.reader.loaded.Datatype.{Datatype}
use Rattle.json_import.specs.Fresh.Names.{Names}
use Rattle.json_import.specs.Fresh.Renamed.{dataset_object, datatype_object, group_object, objects_under}

values_count : {X Y : Type 0} (h : X → Y) (m : FinMap text_order X) → length (map h (values m)) ≡ len m
values_count h m = length-map (values m) h ∙ length-map (entries m) (λ e. e.1) ∙ sym (len-entries m)

-- how many objects there are
pub under_count : (names : Names) (root : Id) (groups : FinMap text_order Group) (datasets : FinMap text_order Dataset) (datatypes : FinMap text_order Datatype)
    → length (objects_under names root groups datasets datatypes) ≡ len groups + (len datasets + len datatypes)
under_count names root groups datasets datatypes =
    let xs = map (group_object names root) (values groups) in
    let ys = map dataset_object (values datasets) in
    let zs = map datatype_object (values datatypes) in
    length-append xs (ys ++ zs)
    ∙ ap (λ n. length xs + n) (length-append ys zs)
    ∙ (λ i. values_count (group_object names root) groups i + (values_count dataset_object datasets i + values_count datatype_object datatypes i))
