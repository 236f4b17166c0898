-- The refusals for faults of selections, points, dims and values.
use Rattle.std.specs.Prelude.{ℕ, Some, None}
use Rattle.shapes.specs.declared.ShapeFault.{ShapeFault}
use Rattle.shapes.specs.declared.ShapeFault.TheVariants as shape
use Rattle.hyperslab.specs.declared.SlabFault.{SlabFault}
use Rattle.hyperslab.specs.declared.SlabFault.TheVariants as slab
use Rattle.point_select.specs.declared.PointFault.{PointFault}
use Rattle.point_select.specs.declared.PointFault.TheVariants as point
use Rattle.hdf_values.specs.declared.faults.ValueFault.{ValueFault}
use Rattle.hdf_values.specs.declared.faults.ValueFault.TheVariants as value
use Rattle.object_ops.specs.declared.words.SelectWord.TheVariants as select
use Rattle.object_ops.specs.declared.words.ValueWord.TheVariants as word
use Rattle.object_ops.specs.declared.refusals.Refusal.{Refusal}
use Rattle.object_ops.specs.declared.refusals.Refusal.TheVariants.{BadSelect, BadValue, TooMany}

-- the most points, elements and bytes of one request
abbrev pub most_points : ℕ
most_points = 65536

abbrev pub most_elements : ℕ
most_elements = 1048576

abbrev pub most_bytes : ℕ
most_bytes = 8388608

-- the most bytes of chunks that one request adds
abbrev pub most_new_bytes : ℕ
most_new_bytes = 268435456

abbrev pub slab_refusal : SlabFault → Refusal
slab_refusal (slab.Syntax byte) = BadSelect select.Syntax None (Some byte) None
slab_refusal slab.Rank = BadSelect select.Rank None None None
slab_refusal (slab.Step axis) = BadSelect select.Step (Some axis) None None
slab_refusal (slab.Order axis) = BadSelect select.Order (Some axis) None None
slab_refusal (slab.Past axis) = BadSelect select.Past (Some axis) None None
slab_refusal (slab.TooMany count) = TooMany count most_elements

-- memory that ran out is no refusal
abbrev pub point_refusal : PointFault → Refusal
point_refusal (point.Syntax index) = BadSelect select.Syntax None None (Some index)
point_refusal (point.TooMany count) = TooMany count most_points
point_refusal (point.Rank index) = BadSelect select.Rank None None (Some index)
point_refusal (point.Past index) = BadSelect select.Past None None (Some index)
point_refusal point.NoMemory = TooMany 0 most_points

-- a dim over its limit is past the end
abbrev pub dims_refusal : ShapeFault → Refusal
dims_refusal shape.NotAShape = BadSelect select.Syntax None None None
dims_refusal shape.Rank = BadSelect select.Rank None None None
dims_refusal (shape.DimOverMax axis) = BadSelect select.Past (Some axis) None None
dims_refusal shape.TooLarge = BadSelect select.TooLarge None None None

-- memory that ran out is no refusal
abbrev pub value_refusal : ValueFault → Refusal
value_refusal (value.NotOfType place) = BadValue word.NotOfType (Some place) None None
value_refusal (value.OutOfRange place) = BadValue word.OutOfRange (Some place) None None
value_refusal (value.TooLong place) = BadValue word.TooLong (Some place) None None
value_refusal (value.NotAscii place) = BadValue word.NotAscii (Some place) None None
value_refusal (value.Nul place) = BadValue word.Nul (Some place) None None
value_refusal (value.WrongCount want got) = BadValue word.WrongCount None (Some got) (Some want)
value_refusal value.NoMemory = BadValue word.NotOfType None None None
