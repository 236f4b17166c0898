-- Each compound inside fields is less deep than they are.
use Rattle.std.specs.Prelude.{◌≤◌, max, List, [], ◌∷◌}
use Rattle.std.proofs.Common.{arith}
use denote.Param.Weighed.{most}
use Rattle.hdf_types.specs.declared.types.ElemType.{ElemType}
use Rattle.hdf_types.specs.declared.types.ElemType.TheVariants.{Int, Text, Compound}
use Rattle.hdf_types.specs.declared.types.Field.{Field}
use Rattle.hdf_types.specs.declared.types.Fields.TheDeep.{deep-Field, deep-ElemType}
use Rattle.hdf_types.specs.Elems.{depth, fields_depth}
use Rattle.hdf_types.specs.Views.{elem, field_list}

deep_le-depth : (e : ElemType) → deep-ElemType e ≤ depth (elem e)
deep_le-depth (Int t) = omega arith
deep_le-depth (Text t) = omega arith
deep_le-depth (Compound fs) = omega arith

most_le : (fs : List Field) → most deep-Field fs ≤ fields_depth (field_list fs)
most_le [] = omega arith
most_le (f ∷ fs) = omega (arith, deep_le-depth f.elem, most_le fs)

pub most_le-fields_depth : (fs : List Field) → max (most deep-Field fs) 0 ≤ fields_depth (field_list fs)
most_le-fields_depth fs = omega (arith, most_le fs)
