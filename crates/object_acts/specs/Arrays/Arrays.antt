-- What requests read of an array, and write to it.
use Rattle.std.specs.Prelude.{ℕ, ◌*◌, List, [], ◌∷◌, length, Option, Some, None, Result, Ok, Err, nat_le, codes, if◌then◌else◌}
use Rattle.serde_json.specs.Data.{Data, null}
use Rattle.hdf_types.specs.Elems.{Elem}
use Rattle.hdf_types.specs.Reading.{size_of}
use Rattle.hdf_types.specs.Printed.{type_tree}
use Rattle.hdf_values.specs.declared.faults.ValueFault.{ValueFault}
use Rattle.hdf_values.specs.Nested.{nested_decoded, nested_from}
use Rattle.shapes.specs.declared.Shape.{Shape}
use Rattle.shapes.specs.declared.Shape.TheVariants.{Null}
use Rattle.shapes.specs.declared.ShapeFault.{ShapeFault}
use Rattle.shapes.specs.declared.printing.Form.TheVariants.{Rest}
use Rattle.shapes.specs.Printed.{shape_tree}
use Rattle.shapes.specs.Shapes.{resized_of}
use Rattle.hyperslab.specs.declared.Slab.{Slab}
use Rattle.hyperslab.specs.declared.SlabFault.{SlabFault}
use Rattle.hyperslab.specs.Judged.{whole_of, lists_slab}
use Rattle.hyperslab.specs.Steps.{text_slab}
use Rattle.hyperslab.specs.Selected.{extents, slab_cells}
use Rattle.point_select.specs.declared.PointFault.{PointFault}
use Rattle.point_select.specs.Faults.{points_of}
use Rattle.chunk_store.specs.Grids.{Grid, reads, writes, resized_to}
use Rattle.object_ops.specs.declared.ops.Part.{Part}
use Rattle.object_ops.specs.declared.ops.Part.TheVariants as part
use Rattle.object_ops.specs.declared.replies.Reply.{Reply}
use Rattle.object_ops.specs.declared.replies.Reply.TheVariants.{Done, Refused}
use Rattle.object_ops.specs.declared.refusals.Refusal.{Refusal}
use Rattle.object_ops.specs.declared.refusals.Refusal.TheVariants.{TooMany}
use Rattle.object_ops.specs.Replies.{nothing, only}
use Rattle.object_acts.specs.Arrays.Faults.{most_bytes, slab_refusal, point_refusal, dims_refusal, value_refusal}

-- how many bytes so many elements have
abbrev pub bytes_for : Grid → ℕ → ℕ
bytes_for g n = n * size_of g.kind

-- ---- reading

-- elements nested by extents; null where the shape is null
abbrev pub nested_by : Shape → Elem → List ℕ → List ℕ → Data
nested_by Null e dims bs = null
nested_by shape e dims bs = nested_decoded e dims bs

abbrev pub part_tree : Grid → Slab → Data
part_tree g s = nested_by g.shape g.kind (extents s) (reads g (slab_cells s g.shape))

-- the selected elements, of which at most so many bytes are read at once
abbrev pub part_read : Grid → Result Slab SlabFault → Reply
part_read g (Err f) = Refused (slab_refusal f)
part_read g (Ok s) =
    let bytes = bytes_for g (length (slab_cells s g.shape)) in
    if nat_le bytes most_bytes then Done 200 (only (codes "value") (part_tree g s)) else Refused (TooMany bytes most_bytes)

-- where no text is given all cells are selected
abbrev pub selected_by : Option (List ℕ) → Shape → Result Slab SlabFault
selected_by None shape = whole_of shape
selected_by (Some text) shape = text_slab text shape

abbrev pub value_read : Option (List ℕ) → Grid → Reply
value_read select g = part_read g (selected_by select g.shape)

-- one element for each point
abbrev pub points_tree : Grid → List (List ℕ) → Data
points_tree g ps = nested_decoded g.kind (length ps ∷ []) (reads g ps)

abbrev pub points_read_in : Grid → Result (List (List ℕ)) PointFault → Reply
points_read_in g (Err f) = Refused (point_refusal f)
points_read_in g (Ok ps) =
    let bytes = bytes_for g (length ps) in
    if nat_le bytes most_bytes then Done 200 (only (codes "value") (points_tree g ps)) else Refused (TooMany bytes most_bytes)

abbrev pub points_read : Data → Grid → Reply
points_read points g = points_read_in g (points_of points g.shape)

abbrev pub shape_read : Grid → Reply
shape_read g = Done 200 (only (codes "shape") (shape_tree g.shape Rest))

abbrev pub type_read : Grid → Reply
type_read g = Done 200 (only (codes "type") (type_tree g.kind))

-- ---- writing

-- the bytes of a tree, or its fault as a refusal
abbrev pub or_refused : Result (List ℕ) ValueFault → Result (List ℕ) Refusal
or_refused (Err f) = Err (value_refusal f)
or_refused (Ok bs) = Ok bs

-- the bytes that a tree, nested by extents, has for so many elements: at most so many bytes are written at once
abbrev pub bytes_read : Grid → ℕ → List ℕ → Data → Result (List ℕ) Refusal
bytes_read g many dims tree =
    let bytes = bytes_for g many in
    if nat_le bytes most_bytes then or_refused (nested_from g.kind dims 0 tree) else Err (TooMany bytes most_bytes)

-- bytes go to the cells in turn, and a refusal leaves the array
abbrev pub bytes_written : Grid → List (List ℕ) → Result (List ℕ) Refusal → Reply × Grid
bytes_written g ats (Err refusal) = (Refused refusal, g)
bytes_written g ats (Ok bs) = (Done 200 nothing, writes g ats bs)

abbrev pub tree_written : Grid → List (List ℕ) → List ℕ → Data → Reply × Grid
tree_written g ats dims tree = bytes_written g ats (bytes_read g (length ats) dims tree)

abbrev pub slab_written : Grid → Data → Result Slab SlabFault → Reply × Grid
slab_written g tree (Err f) = (Refused (slab_refusal f), g)
slab_written g tree (Ok s) = tree_written g (slab_cells s g.shape) (extents s) tree

abbrev pub points_written : Grid → Data → Result (List (List ℕ)) PointFault → Reply × Grid
points_written g tree (Err f) = (Refused (point_refusal f), g)
points_written g tree (Ok ps) = tree_written g ps (length ps ∷ []) tree

abbrev pub value_written : Part → Data → Grid → Reply × Grid
value_written (part.Slab start stop step) tree g = slab_written g tree (lists_slab g.shape start stop step)
value_written (part.Points points) tree g = points_written g tree (points_of points g.shape)

-- ---- other dims

-- the shape's own limits decide whether it takes them
abbrev pub dims_taken : List ℕ → Grid → Result Shape ShapeFault → Reply × Grid
dims_taken dims g (Err f) = (Refused (dims_refusal f), g)
dims_taken dims g (Ok shape) = (Done 201 nothing, resized_to g dims)

abbrev pub shape_changed : List ℕ → Grid → Reply × Grid
shape_changed dims g = dims_taken dims g (resized_of g.shape dims)
