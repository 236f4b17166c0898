use Rattle.hdf_types.specs.Views.{elem, field_list}
use Rattle.hdf_values.proofs.Weights.{weight, fields_weight}
use Rattle.hdf_values.proofs.elements.+tests.Given as goal

abbrev pub decreases-is_encoded_part : goal.decreases-is_encoded_part
decreases-is_encoded_part l = weight (elem l.kind.now)

abbrev pub decreases-are_encoded_fields : goal.decreases-are_encoded_fields
decreases-are_encoded_fields l = fields_weight (field_list l.fields.now)
