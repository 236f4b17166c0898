-- When a value is written, in other words than the tests in turn.
use Rattle.std.specs.Prelude.{◌≡◌, ◌≤◌, ℕ, List, [], ◌∷◌, length, Result, Ok, Err}
use Rattle.serde_json.specs.Data.{Data}
use Rattle.hdf_values.specs.Nested.{FitsNested}
use Rattle.shapes.specs.declared.Shape.{Shape}
use Rattle.hyperslab.specs.declared.Slab.{Slab}
use Rattle.hyperslab.specs.declared.SlabFault.{SlabFault}
use Rattle.hyperslab.specs.Judged.{lists_slab}
use Rattle.hyperslab.specs.Selected.{extents, slab_cells}
use Rattle.point_select.specs.declared.PointFault.{PointFault}
use Rattle.point_select.specs.Faults.{points_of}
use Rattle.chunk_store.specs.Grids.{Grid}
use Rattle.object_ops.specs.declared.ops.Part.{Part}
use Rattle.object_ops.specs.declared.ops.Part.TheVariants as part
use Rattle.object_ops.specs.declared.refusals.Refusal.{Refusal}
use Rattle.object_acts.specs.Arrays.Faults.{most_bytes, slab_refusal, point_refusal}
use Rattle.object_acts.specs.Arrays.Arrays.{bytes_for}

-- cells in the order of their elements, and the extents by which a value for them nests
pub record Region : Type 0 where
  pub cells : List (List ℕ)
  pub extents : List ℕ

abbrev pub slab_region : Shape → Result Slab SlabFault → Result Region Refusal
slab_region shape (Err f) = Err (slab_refusal f)
slab_region shape (Ok s) = Ok (record { cells = slab_cells s shape; extents = extents s })

abbrev pub points_region : Result (List (List ℕ)) PointFault → Result Region Refusal
points_region (Err f) = Err (point_refusal f)
points_region (Ok ps) = Ok (record { cells = ps; extents = length ps ∷ [] })

-- what a part means of a shape, or why it means nothing there
abbrev pub region_of : Part → Shape → Result Region Refusal
region_of (part.Slab start stop step) shape = slab_region shape (lists_slab shape start stop step)
region_of (part.Points points) shape = points_region (points_of points shape)

-- the part is one of the array, its elements have few enough bytes, and the tree is a value for it
pub record CanWrite (g : Grid) (p : Part) (d : Data) : Type 0 where
  pub region : Region
  pub meant : region_of p g.shape ≡ Ok region
  pub few : bytes_for g (length region.cells) ≤ most_bytes
  pub fits : FitsNested g.kind region.extents d
