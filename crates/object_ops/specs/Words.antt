-- The words that tell what is wrong.
use Rattle.std.specs.Prelude.{ℕ, List, codes}
use Rattle.hdf_types.specs.declared.faults.Class.{Class}
use Rattle.hdf_types.specs.declared.faults.Class.TheVariants as class
use Rattle.object_ops.specs.declared.words.FieldWord.{FieldWord}
use Rattle.object_ops.specs.declared.words.FieldWord.TheVariants as field
use Rattle.object_ops.specs.declared.words.ShapeWord.{ShapeWord}
use Rattle.object_ops.specs.declared.words.ShapeWord.TheVariants as shape
use Rattle.object_ops.specs.declared.words.SelectWord.{SelectWord}
use Rattle.object_ops.specs.declared.words.SelectWord.TheVariants as select
use Rattle.object_ops.specs.declared.words.ValueWord.{ValueWord}
use Rattle.object_ops.specs.declared.words.ValueWord.TheVariants as value

abbrev pub field_word : FieldWord → List ℕ
field_word field.Id = codes "id"
field_word field.Folder = codes "folder"
field_word field.Acl = codes "acl"
field_word field.Type = codes "type"
field_word field.CreationProperties = codes "creationProperties"
field_word field.Value = codes "value"
field_word field.Points = codes "points"
field_word field.Link = codes "link"
field_word field.Shape = codes "shape"

abbrev pub shape_word : ShapeWord → List ℕ
shape_word shape.NotAShape = codes "not-a-shape"
shape_word shape.Rank = codes "rank"
shape_word shape.DimOverMax = codes "dim-over-max"
shape_word shape.TooLarge = codes "too-large"

abbrev pub select_word : SelectWord → List ℕ
select_word select.Syntax = codes "syntax"
select_word select.Rank = codes "rank"
select_word select.Step = codes "step"
select_word select.Order = codes "order"
select_word select.Past = codes "past"
select_word select.TooLarge = codes "too-large"

abbrev pub value_word : ValueWord → List ℕ
value_word value.NotOfType = codes "not-of-type"
value_word value.OutOfRange = codes "out-of-range"
value_word value.TooLong = codes "too-long"
value_word value.NotAscii = codes "not-ascii"
value_word value.Nul = codes "nul"
value_word value.WrongCount = codes "wrong-count"

-- a class of types, as HDF5 names it
abbrev pub class_name : Class → List ℕ
class_name class.Float = codes "H5T_FLOAT"
class_name class.Reference = codes "H5T_REFERENCE"
class_name class.Vlen = codes "H5T_VLEN"
class_name class.Opaque = codes "H5T_OPAQUE"
class_name class.Bitfield = codes "H5T_BITFIELD"
class_name class.Array = codes "H5T_ARRAY"
class_name class.Enum = codes "H5T_ENUM"
class_name class.Time = codes "H5T_TIME"
class_name class.String = codes "H5T_STRING"
