use Rattle.std.proofs.Common.{◌≡◌, ◌+◌, ◌*◌, take}
use Rattle.hdf_types.specs.Elems.{depth, fields_depth}
use Rattle.hdf_types.specs.Views.{elem, field_list}
use Rattle.hdf_types.proofs.walks.+copies.Given as goal

abbrev pub decreases-copied : goal.decreases-copied
decreases-copied l = 2 * depth (elem l.kind.now)

abbrev pub decreases-copied_fields : goal.decreases-copied_fields
decreases-copied_fields l = 2 * fields_depth l.fields.now + 1

abbrev pub invariant-copied_fields-loop-field : goal.invariant-copied_fields-loop-field
invariant-copied_fields-loop-field l = field_list l.list.items ≡ field_list (take l.field-index l.field-items)
