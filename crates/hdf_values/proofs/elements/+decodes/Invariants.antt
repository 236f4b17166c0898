use Rattle.std.proofs.Common.{◌≡◌, ◌≤◌, ◌++◌, map, drop}
use Rattle.serde_json.specs.View.{view}
use Rattle.hdf_types.specs.declared.TheConstants.{MAX_SIZE}
use Rattle.hdf_types.specs.Reading.{fields_size}
use Rattle.hdf_types.specs.Types.{AreFormed}
use Rattle.hdf_types.specs.Views.{elem, field_list}
use Rattle.hdf_values.specs.Elements.{AreEncodedFields, fields_decoded}
use Rattle.hdf_values.proofs.Weights.{weight, fields_weight}
use Rattle.hdf_values.proofs.elements.+decodes.Given as goal

abbrev pub decreases-decode_part : goal.decreases-decode_part
decreases-decode_part l = weight (elem l.kind.now)

abbrev pub decreases-decode_fields : goal.decreases-decode_fields
decreases-decode_fields l = fields_weight (field_list l.fields.now)

-- what was decoded, in front of what is left
abbrev pub invariant-decode_fields-loop-field : goal.invariant-decode_fields-loop-field
invariant-decode_fields-loop-field l = record {
  formed : AreFormed (field_list (drop l.field-index l.fields));
  small : fields_size (field_list (drop l.field-index l.fields)) ≤ MAX_SIZE;
  encoded : AreEncodedFields (field_list (drop l.field-index l.fields)) l.left;
  values : map view l.list.items ++ fields_decoded (field_list (drop l.field-index l.fields)) l.left ≡ fields_decoded (field_list l.fields) l.bytes;
}
