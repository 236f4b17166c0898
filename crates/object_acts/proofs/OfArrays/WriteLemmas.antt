-- When a value is written, and why not.
use Rattle.std.proofs.Common.{◌≡◌, ◌<◌, ◌≤◌, ◌↔◌, ℕ, cond, true, false, nat_le, List, [], ◌∷◌, length, Result, Ok, Err, refl, sym, ap, subst, ◌∙◌, arith}
use Rattle.std.proofs.lemmas.Bool.{leb-true, le-leb, lt-leb}
use Rattle.serde_json.specs.Data.{Data}
use Rattle.hdf_types.specs.Elems.{Elem}
use Rattle.hdf_values.specs.declared.faults.ValueFault.{ValueFault}
use Rattle.hdf_values.specs.Elements.{Fits}
use Rattle.json_trees.specs.Trees.{AreTexts}
use Rattle.hdf_values.specs.Nested.{FitsNested, nested_bytes, nested_from}
use Rattle.hdf_values.specs.Lowest.{IsFirstFault}
use Rattle.hyperslab.specs.declared.Slab.{Slab}
use Rattle.hyperslab.specs.declared.SlabFault.{SlabFault}
use Rattle.hyperslab.specs.Judged.{lists_slab}
use Rattle.hyperslab.specs.Selected.{extents, slab_cells}
use Rattle.point_select.specs.declared.PointFault.{PointFault}
use Rattle.point_select.specs.Faults.{points_of}
use Rattle.chunk_store.specs.Grids.{Grid, writes}
use Rattle.object_ops.specs.declared.ops.Part.{Part}
use Rattle.object_ops.specs.declared.ops.Part.TheVariants as part
use Rattle.object_ops.specs.declared.refusals.Refusal.{Refusal}
use Rattle.object_ops.specs.declared.refusals.Refusal.TheVariants.{TooMany}
use Rattle.object_ops.specs.declared.replies.Reply.{Reply}
use Rattle.object_ops.specs.declared.replies.Reply.TheVariants.{Done, Refused}
use Rattle.object_ops.specs.Replies.{nothing}
use Rattle.object_acts.specs.Arrays.Faults.{most_bytes, value_refusal}
use Rattle.object_acts.specs.Arrays.Arrays.{bytes_for, bytes_read, bytes_written, or_refused, points_written, slab_written, tree_written, value_written}
use Rattle.object_acts.specs.Arrays.Writes.{Region, CanWrite, points_region, region_of, slab_region}
use Rattle.object_acts.proofs.OfArrays.LawLemmas.{limited_ok, written_done}

-- what is written to a region, or why a part has none
abbrev region_written : Grid → Data → Result Region Refusal → Reply × Grid
region_written g d (Err refusal) = (Refused refusal, g)
region_written g d (Ok r) = tree_written g r.cells r.extents d

slab_as : (g : Grid) (d : Data) (r : Result Slab SlabFault) → slab_written g d r ≡ region_written g d (slab_region g.shape r)
slab_as g d (Err f) = refl
slab_as g d (Ok s) = refl

points_as : (g : Grid) (d : Data) (r : Result (List (List ℕ)) PointFault) → points_written g d r ≡ region_written g d (points_region r)
points_as g d (Err f) = refl
points_as g d (Ok ps) = refl

written_as : (g : Grid) (p : Part) (d : Data) → value_written p d g ≡ region_written g d (region_of p g.shape)
written_as g (part.Slab start stop step) d = slab_as g d (lists_slab g.shape start stop step)
written_as g (part.Points points) d = points_as g d (points_of points g.shape)

-- the same where the region, or why there is none, is known
pub written_in : (g : Grid) (p : Part) (d : Data) (r : Result Region Refusal) → region_of p g.shape ≡ r → value_written p d g ≡ region_written g d r
written_in g p d r e = written_as g p d ∙ ap (region_written g d) e

read_few : (g : Grid) (many : ℕ) (dims : List ℕ) (d : Data) → bytes_for g many ≤ most_bytes → bytes_read g many dims d ≡ or_refused (nested_from g.kind dims 0 d)
read_few g many dims d few = ap (λ b. cond b (or_refused (nested_from g.kind dims 0 d)) (Err (TooMany (bytes_for g many) most_bytes))) (le-leb (bytes_for g many) most_bytes few)

read_many : (g : Grid) (many : ℕ) (dims : List ℕ) (d : Data) → most_bytes < bytes_for g many → bytes_read g many dims d ≡ Err (TooMany (bytes_for g many) most_bytes)
read_many g many dims d above = ap (λ b. cond b (or_refused (nested_from g.kind dims 0 d)) (Err (TooMany (bytes_for g many) most_bytes))) (lt-leb (bytes_for g many) most_bytes above)

pub none_written : (g : Grid) (p : Part) (d : Data) (refusal : Refusal) → region_of p g.shape ≡ Err refusal → (value_written p d g).0 ≡ Refused refusal
none_written g p d refusal e = ap (λ w. w.0) (written_in g p d (Err refusal) e)

pub many_written : (g : Grid) (p : Part) (d : Data) (r : Region) → region_of p g.shape ≡ Ok r → most_bytes < bytes_for g (length r.cells)
    → (value_written p d g).0 ≡ Refused (TooMany (bytes_for g (length r.cells)) most_bytes)
many_written g p d r e above =
    ap (λ w. w.0) (written_in g p d (Ok r) e ∙ ap (bytes_written g r.cells) (read_many g (length r.cells) r.extents d above))

pub bad_written : (g : Grid) (p : Part) (d : Data) (r : Region) (f : ValueFault) → region_of p g.shape ≡ Ok r → bytes_for g (length r.cells) ≤ most_bytes
    → nested_from g.kind r.extents 0 d ≡ Err f → (value_written p d g).0 ≡ Refused (value_refusal f)
bad_written g p d r f e few bad =
    ap (λ w. w.0) (written_in g p d (Ok r) e ∙ ap (bytes_written g r.cells) (read_few g (length r.cells) r.extents d few ∙ ap or_refused bad))

-- what can be written is
pub can_written : (g : Grid) (p : Part) (d : Data) (can : CanWrite g p d) → nested_from g.kind can.region.extents 0 d ≡ Ok (nested_bytes g.kind can.region.extents d)
    → value_written p d g ≡ (Done 200 nothing, writes g can.region.cells (nested_bytes g.kind can.region.extents d))
can_written g p d can read =
    let r = can.region in
    written_in g p d (Ok r) can.meant ∙ ap (bytes_written g r.cells) (read_few g (length r.cells) r.extents d can.few ∙ ap or_refused read)

-- and nothing else
module _ (fits : (e : Elem) (dims : List ℕ) (d : Data) (bs : List ℕ) → AreTexts d → nested_from e dims 0 d ≡ Ok bs → FitsNested e dims d) where
  region_done : (g : Grid) (p : Part) (d : Data) (r : Result Region Refusal) → AreTexts d → region_of p g.shape ≡ r → (region_written g d r).0 ≡ Done 200 nothing → CanWrite g p d
  region_done g p d (Err refusal) texts e done = absurd (let both : Refused refusal ≡ Done 200 nothing = done in cc)
  region_done g p d (Ok r) texts e done =
      let (bs, read, left) = written_done g r.cells (bytes_read g (length r.cells) r.extents d) done in
      let (few, ok) = limited_ok (nat_le (bytes_for g (length r.cells)) most_bytes) (nested_from g.kind r.extents 0 d) (TooMany (bytes_for g (length r.cells)) most_bytes) bs read in
      record { region = r; meant = e; few = leb-true (bytes_for g (length r.cells)) most_bytes few; fits = fits g.kind r.extents d bs texts ok }

  pub written_can : (g : Grid) (p : Part) (d : Data) → AreTexts d → (value_written p d g).0 ≡ Done 200 nothing → CanWrite g p d
  written_can g p d texts done = region_done g p d (region_of p g.shape) texts refl (ap (λ w. w.0) (sym (written_as g p d)) ∙ done)
