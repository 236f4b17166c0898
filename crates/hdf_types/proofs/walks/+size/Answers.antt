-- A field is less deep than its fields.
use Rattle.std.proofs.Common.{◌<◌, length, ap, arith}
use Rattle.hdf_types.specs.Elems.{fields_depth}
use Rattle.hdf_types.proofs.FieldLemmas.{depth-field}
use Rattle.hdf_types.proofs.walks.+size.Goals as goal

pub capped_sum-capped_size-requires : goal.capped_sum-capped_size-requires
capped_sum-capped_size-requires t c =
    let within : c.loop-field.field-index < length c.as_slice-field-items.result.now = omega arith in
    let deep = depth-field c.as_slice-field-items.result.now c.loop-field.field-index c.field-item.result within c.field-item.is in
    (omega (arith, deep, ap fields_depth c.as_slice-field-items.ensures), tt)
