-- A field is less deep than its fields, and the list has a tree for each.
use Rattle.std.proofs.Common.{◌<◌, ◌≤◌, List, length, map, ap, ◌∙◌, arith}
use Rattle.std.proofs.lemmas.List.{map_push, take_all}
use Rattle.serde_json.specs.Data.{Data, array}
use Rattle.serde_json.specs.View.{view, items_of}
use Rattle.serde_json.proofs.Views.{view-Array}
use Rattle.hdf_types.specs.declared.types.Field.{Field}
use Rattle.hdf_types.specs.Elems.{fields_depth}
use Rattle.hdf_types.specs.Views.{field_list}
use Rattle.hdf_types.specs.Printed.{fields_trees}
use Rattle.hdf_types.proofs.FieldLemmas.{depth-field, printed_next}
use Rattle.hdf_types.proofs.printing.+json.Goals as goal

pub fields_json-field_json-requires : goal.fields_json-field_json-requires
fields_json-field_json-requires t c =
    let within : c.loop-field.field-index < length c.as_slice-field-items.result.now = omega arith in
    let deep = depth-field c.as_slice-field-items.result.now c.loop-field.field-index c.field-item.result within c.field-item.is in
    (omega (arith, deep, ap fields_depth c.as_slice-field-items.ensures), tt)

pub fields_json-loop-field-preserved : goal.fields_json-loop-field-preserved
fields_json-loop-field-preserved t c =
    let items = c.as_slice-field-items.result.now in
    let before = c.loop-field.list.items in
    let shown = c.in_ok-field_json.field-0 in
    let within : c.loop-field.field-index < length c.as_slice-field-items.result.now = omega arith in
    ap (map view) c.in_ok-push.ensures.items
    ∙ map_push view before shown
    ∙ printed_next items (map view before) c.loop-field.field-index c.field-item.result (view shown) within c.field-item.is c.in_ok-field_json.ensures c.loop-field.invariant

pub fields_json-returns : goal.fields_json-returns
fields_json-returns t c =
    let items = c.as_slice-field-items.result.now in
    let past : length c.as_slice-field-items.result.now ≤ c.loop-field.field-index = omega arith in
    view-Array c.loop-field.list
    ∙ ap (λ (ds : List Data). array (items_of ds)) (c.loop-field.invariant ∙ ap (λ (fs : List Field). fields_trees (field_list fs)) (take_all c.loop-field.field-index items past))
    ∙ ap (λ fs. array (items_of (fields_trees fs))) c.as_slice-field-items.ensures
