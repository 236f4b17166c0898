-- A field is less deep than its fields, and its copy has its name and type.
use Rattle.std.proofs.Common.{◌<◌, length, ap, ◌∙◌, arith}
use Rattle.hdf_types.specs.Elems.{fields_depth}
use Rattle.hdf_types.specs.Views.{field_list}
use Rattle.hdf_types.proofs.FieldLemmas.{depth-field, copied_next}
use Rattle.hdf_types.proofs.walks.+copies.Goals as goal

pub copied_fields-copied-requires : goal.copied_fields-copied-requires
copied_fields-copied-requires t c =
    let within : c.loop-field.field-index < length c.as_slice-field-items.result.now = omega arith in
    let deep = depth-field c.as_slice-field-items.result.now c.loop-field.field-index c.field-item.result within c.field-item.is in
    (omega (arith, deep, ap fields_depth c.as_slice-field-items.ensures), tt)

pub copied_fields-loop-field-preserved : goal.copied_fields-loop-field-preserved
copied_fields-loop-field-preserved t c =
    let within : c.loop-field.field-index < length c.as_slice-field-items.result.now = omega arith in
    ap field_list c.in_ok-push.ensures.items
    ∙ copied_next c.as_slice-field-items.result.now c.loop-field.list.items c.loop-field.field-index c.field-item.result (record { name = c.in_ok-name.name; elem = c.in_ok-elem.elem }) within c.field-item.is
    (c.in_ok-name.ensures ∙ c.text.ensures) c.in_ok-elem.ensures c.loop-field.invariant
