use Rattle.std.proofs.Common.{◌≤◌, drop}
use Rattle.hdf_types.specs.declared.TheConstants.{MAX_SIZE}
use Rattle.hdf_types.specs.Reading.{fields_size}
use Rattle.hdf_types.specs.Types.{AreFormed}
use Rattle.hdf_types.specs.Views.{elem, field_list}
use Rattle.hdf_values.specs.Elements.{AreEncodedFields, fields_decoded}
use Rattle.hdf_values.proofs.Weights.{weight, fields_weight}
use Rattle.hdf_values.specs.Printed.{list_tokens}
use Rattle.hdf_values.proofs.PrintLemmas.{IsUnderway}
use Rattle.hdf_values.proofs.printing.elements.+prints.Given as goal

abbrev pub decreases-write_element : goal.decreases-write_element
decreases-write_element l = weight (elem l.kind.now)

abbrev pub decreases-write_fields : goal.decreases-write_fields
decreases-write_fields l = fields_weight (field_list l.fields.now)

-- the fields that are left are still to come
abbrev pub invariant-write_fields-loop-field : goal.invariant-write_fields-loop-field
invariant-write_fields-loop-field l = record {
  formed : AreFormed (field_list (drop l.field-index l.fields));
  small : fields_size (field_list (drop l.field-index l.fields)) ≤ MAX_SIZE;
  encoded : AreEncodedFields (field_list (drop l.field-index l.fields)) l.left;
  tokens : IsUnderway (list_tokens (fields_decoded (field_list l.fields) l.bytes)) l.fn.writer (list_tokens (fields_decoded (field_list (drop l.field-index l.fields)) l.left)) l.writer;
}
