use Rattle.hdf_types.specs.Views.{elem, field_list}
use Rattle.hdf_values.proofs.Weights.{weight, fields_weight}
use Rattle.hdf_values.proofs.elements.+encodes.Given as goal

abbrev pub decreases-encode_part : goal.decreases-encode_part
decreases-encode_part l = weight (elem l.kind.now)

abbrev pub decreases-encode_fields : goal.decreases-encode_fields
decreases-encode_fields l = fields_weight (field_list l.fields.now)
