use Rattle.hdf_types.specs.Views.{elem, field_list}
use Rattle.hdf_values.proofs.Weights.{weight, fields_weight}
use Rattle.hdf_values.proofs.elements.+zeros.Given as goal

abbrev pub decreases-zero_part : goal.decreases-zero_part
decreases-zero_part l = weight (elem l.kind.now)

abbrev pub decreases-zero_fields : goal.decreases-zero_fields
decreases-zero_fields l = fields_weight (field_list l.fields.now)
