use Rattle.std.proofs.Common.{◌≡◌, [], take, drop}
use Rattle.hdf_types.specs.Views.{field_names}
use Rattle.hdf_types.specs.Reading.{first_again}
use Rattle.hdf_types.proofs.members.first_again.Given as goal

abbrev pub invariant-loop-index : goal.invariant-loop-index
invariant-loop-index l = first_again l.index (field_names (take l.index l.fields)) (field_names (drop l.index l.fields)) ≡ first_again 0 [] (field_names l.fields)
