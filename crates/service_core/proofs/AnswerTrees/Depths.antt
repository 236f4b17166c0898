-- How deep the trees of arrays nest.
use Rattle.std.proofs.Common.{◌≡◌, ℕ, ◌+◌, ◌≤◌, List, [], length, Option, Some, None, sym, ◌∙◌, arith}
use Rattle.std.proofs.lemmas.List.{length-map}
use Rattle.serde_json.specs.Data.{Members, depth, members_depth}
use Rattle.json_trees.proofs.TreeLemmas.{length-AllZip}
use Rattle.hdf_types.specs.Elems.{Elem, depth as nesting}
use Rattle.shapes.specs.declared.Shape.{Shape}
use Rattle.shapes.specs.declared.Shape.TheVariants.{Null, Scalar, Simple}
use Rattle.shapes.specs.declared.printing.Form.TheVariants.{Rest}
use Rattle.shapes.specs.Shapes.{dims_of}
use Rattle.hyperslab.specs.declared.Slab.{Slab}
use Rattle.hyperslab.specs.Selected.{Axis, FitsIn, SlabIn, axes_of, extent, extents}
use Rattle.chunk_store.specs.Grids.{Grid}
use Rattle.object_acts.specs.Arrays.Arrays.{nested_by}
use Rattle.object_acts.specs.Arrays.Creation.{creation_tree, fill_members, layout_members}
use Rattle.object_acts.specs.Depths.Shallow.{IsShallow}
use Rattle.hdf_values.proofs.OfKept.TreeLemmas.{element_deep, nested_deep}
use Rattle.object_acts.proofs.OfDepths.Depths.{numbers_deep}

layout_deep : (s : Shape) (chunk : List ℕ) → members_depth (layout_members s chunk) ≤ 2
layout_deep Null chunk = omega arith
layout_deep Scalar chunk = omega arith
layout_deep (Simple dims limits) chunk = omega (arith, numbers_deep Rest chunk)

fill_deep : (e : Elem) (fill : Option (List ℕ)) (rest : Members) (k : ℕ) → nesting e ≤ k → members_depth rest ≤ k
    → members_depth (fill_members e fill rest) ≤ k
fill_deep e None rest k low h = h
fill_deep e (Some bs) rest k low h = omega (arith, element_deep e bs, low, h)

pub creation_deep : (g : Grid) → IsShallow g.kind g.shape → depth (creation_tree g) ≤ 5
creation_deep g h =
    let layout = layout_deep g.shape g.chunk in
    omega (arith, fill_deep g.kind g.fill (layout_members g.shape g.chunk) 4 h.nested (omega (arith, layout)))

-- a selection has as many axes as the shape in which it lies
axes_alike : (s : Slab) (dims : List ℕ) → FitsIn s dims → length (extents s) ≡ length dims
axes_alike s dims fits = length-map (axes_of s) extent ∙ sym (length-AllZip (λ (x : Axis) (n : ℕ). x.hi ≤ n) (axes_of s) dims fits)

pub part_deep : (shape : Shape) (e : Elem) (s : Slab) (bs : List ℕ) → SlabIn s shape
    → depth (nested_by shape e (extents s) bs) ≤ length (dims_of shape) + nesting e
part_deep Null e s bs within = omega arith
part_deep Scalar e s bs within = omega (arith, nested_deep e (extents s) bs, axes_alike s [] within)
part_deep (Simple dims limits) e s bs within = omega (arith, nested_deep e (extents s) bs, axes_alike s dims within)
