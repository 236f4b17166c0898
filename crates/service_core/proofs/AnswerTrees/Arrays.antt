-- What is answered of an array.
use Rattle.std.proofs.Common.{ℕ, List, [], ◌∷◌, length, nat_le, Option, Some, None, Result, Ok, Err, IfOk}
use Rattle.serde_json.specs.Data.{Data}
use Rattle.shapes.specs.declared.Shape.{Shape}
use Rattle.shapes.specs.declared.ShapeFault.{ShapeFault}
use Rattle.shapes.specs.Shapes.{resized_of}
use Rattle.hyperslab.specs.declared.Slab.{Slab}
use Rattle.hyperslab.specs.declared.SlabFault.{SlabFault}
use Rattle.hyperslab.specs.Judged.{lists_slab}
use Rattle.hyperslab.specs.Selected.{SlabIn, extents, slab_cells}
use Rattle.hyperslab.proofs.WithinLemmas.{text_within, whole_within}
use Rattle.point_select.specs.declared.PointFault.{PointFault}
use Rattle.point_select.specs.Faults.{points_of}
use Rattle.chunk_store.specs.Grids.{Grid}
use Rattle.object_ops.specs.declared.ops.Op.{Op}
use Rattle.object_ops.specs.declared.ops.Part.{Part}
use Rattle.object_ops.specs.declared.ops.Part.TheVariants as part
use Rattle.object_ops.specs.declared.refusals.Refusal.{Refusal}
use Rattle.object_acts.specs.Arrays.Arrays.{bytes_for, bytes_read, bytes_written, dims_taken, part_read, points_read, points_read_in, points_written, selected_by, shape_changed, shape_read, slab_written, type_read, value_read, value_written}
use Rattle.object_acts.specs.Arrays.Faults.{most_bytes}
use Rattle.object_acts.specs.declared.objects.Object.{Object}
use Rattle.service_core.specs.AnswerTrees.Bodies.{ReplyHas}
use Rattle.service_core.proofs.AnswerTrees.Trees.{Trees, either_way}

-- a selection that was read lies in its shape
selected_within : (select : Option (List ℕ)) (shape : Shape) → IfOk (selected_by select shape) (λ s. SlabIn s shape)
selected_within None shape = whole_within shape
selected_within (Some text) shape = text_within text shape

module _ {P : ℕ → Data → Type 0} {Q : Object → Type 0} {G : Grid → Type 0} {S : Op → Type 0} (t : Trees P Q G S) where
  -- ---- what is read

  part_has : (g : Grid) (r : Result Slab SlabFault) → G g → IfOk r (λ s. SlabIn s g.shape) → ReplyHas P (part_read g r)
  part_has g (Err f) h within = tt
  part_has g (Ok s) h within =
      either_way (ReplyHas P) (nat_le (bytes_for g (length (slab_cells s g.shape))) most_bytes) (t.part g s h within) tt

  pub value_has : (select : Option (List ℕ)) (g : Grid) → G g → ReplyHas P (value_read select g)
  value_has select g h = part_has g (selected_by select g.shape) h (selected_within select g.shape)

  points_in_have : (g : Grid) (r : Result (List (List ℕ)) PointFault) → G g → ReplyHas P (points_read_in g r)
  points_in_have g (Err f) h = tt
  points_in_have g (Ok ps) h = either_way (ReplyHas P) (nat_le (bytes_for g (length ps)) most_bytes) (t.points g ps h) tt

  pub points_have : (points : Data) (g : Grid) → G g → ReplyHas P (points_read points g)
  points_have points g h = points_in_have g (points_of points g.shape) h

  pub shape_has : (g : Grid) → G g → ReplyHas P (shape_read g)
  shape_has g h = t.shape g h

  pub type_has : (g : Grid) → G g → ReplyHas P (type_read g)
  type_has g h = t.kind g h

  -- ---- what is written

  bytes_have : (g : Grid) (ats : List (List ℕ)) (r : Result (List ℕ) Refusal) → ReplyHas P (bytes_written g ats r).0
  bytes_have g ats (Err refusal) = tt
  bytes_have g ats (Ok bs) = t.none

  slab_has : (g : Grid) (tree : Data) (r : Result Slab SlabFault) → ReplyHas P (slab_written g tree r).0
  slab_has g tree (Err f) = tt
  slab_has g tree (Ok s) = bytes_have g (slab_cells s g.shape) (bytes_read g (length (slab_cells s g.shape)) (extents s) tree)

  at_points_has : (g : Grid) (tree : Data) (r : Result (List (List ℕ)) PointFault) → ReplyHas P (points_written g tree r).0
  at_points_has g tree (Err f) = tt
  at_points_has g tree (Ok ps) = bytes_have g ps (bytes_read g (length ps) (length ps ∷ []) tree)

  pub written_has : (p : Part) (tree : Data) (g : Grid) → ReplyHas P (value_written p tree g).0
  written_has (part.Slab start stop step) tree g = slab_has g tree (lists_slab g.shape start stop step)
  written_has (part.Points points) tree g = at_points_has g tree (points_of points g.shape)

  dims_have : (dims : List ℕ) (g : Grid) (r : Result Shape ShapeFault) → ReplyHas P (dims_taken dims g r).0
  dims_have dims g (Err f) = tt
  dims_have dims g (Ok s) = t.added

  pub resized_has : (dims : List ℕ) (g : Grid) → ReplyHas P (shape_changed dims g).0
  resized_has dims g = dims_have dims g (resized_of g.shape dims)
