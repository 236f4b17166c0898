use Rattle.hdf_types.specs.Views.{elem, field_list}
use Rattle.hdf_values.proofs.Weights.{weight, fields_weight}
use Rattle.hdf_values.proofs.kept.parts.+parts.Given as goal

abbrev pub decreases-read_part : goal.decreases-read_part
decreases-read_part l = weight (elem l.kind.now)

abbrev pub decreases-read_fields : goal.decreases-read_fields
decreases-read_fields l = fields_weight (field_list l.fields.now)
