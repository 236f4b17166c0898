-- A field, seen as a member that was read.
use Rattle.hdf_types.specs.declared.types.Field.{Field}
use Rattle.hdf_types.specs.Views.{elem}
use Rattle.hdf_types.specs.Reading.{Member}

abbrev pub member_of : Field → Member
member_of f = record { name = f.name; elem = elem f.elem }
