use Rattle.std.proofs.Common.{◌≡◌, drop}
use Rattle.std.specs.List.{list_any}
use Rattle.std.specs.Str.{bytes_eq}
use Rattle.hdf_types.specs.Views.{field_names}
use Rattle.hdf_types.proofs.members.is_among.Given as goal

abbrev pub invariant-loop-field : goal.invariant-loop-field
invariant-loop-field l = list_any (λ m. bytes_eq m l.name) (field_names (drop l.field-index l.fields)) ≡ list_any (λ m. bytes_eq m l.name) (field_names l.fields)
