use Rattle.std.proofs.Common.{◌≡◌, ◌≤◌, ◌+◌, ◌*◌, ◌-◌, ◌^◌, min, drop}
use Rattle.hdf_types.specs.Elems.{depth, fields_depth}
use Rattle.hdf_types.specs.Views.{elem, field_list}
use Rattle.hdf_types.specs.Reading.{fields_size}
use Rattle.hdf_types.proofs.walks.+size.Given as goal

abbrev pub decreases-capped_size : goal.decreases-capped_size
decreases-capped_size l = 2 * depth (elem l.kind.now)

abbrev pub decreases-capped_sum : goal.decreases-capped_sum
decreases-capped_sum l = 2 * fields_depth l.fields.now + 1

abbrev pub invariant-capped_sum-loop-field : goal.invariant-capped_sum-loop-field
invariant-capped_sum-loop-field l = record {
  sum : min (l.total + fields_size (field_list (drop l.field-index l.field-items))) (2 ^ 64 - 1) ≡ min (fields_size (field_list l.field-items)) (2 ^ 64 - 1);
  capped : l.total ≤ 2 ^ 64 - 1;
}
