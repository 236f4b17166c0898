use Rattle.std.proofs.Common.{◌≡◌, ◌+◌, ◌*◌, map, take}
use Rattle.serde_json.specs.View.{view}
use Rattle.hdf_types.specs.Elems.{depth, fields_depth}
use Rattle.hdf_types.specs.Views.{elem, field_list}
use Rattle.hdf_types.specs.Printed.{fields_trees}
use Rattle.hdf_types.proofs.printing.+json.Given as goal

abbrev pub decreases-kind_json : goal.decreases-kind_json
decreases-kind_json l = 3 * depth (elem l.kind.now)

abbrev pub decreases-field_json : goal.decreases-field_json
decreases-field_json l = 3 * depth (elem l.field.now.elem) + 1

abbrev pub decreases-fields_json : goal.decreases-fields_json
decreases-fields_json l = 3 * fields_depth l.fields.now + 2

abbrev pub invariant-fields_json-loop-field : goal.invariant-fields_json-loop-field
invariant-fields_json-loop-field l = map view l.list.items ≡ fields_trees (field_list (take l.field-index l.field-items))
