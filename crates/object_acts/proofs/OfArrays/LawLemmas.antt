-- What is written and read back, and what a refusal leaves.
use Rattle.std.proofs.Common.{◌≡◌, ℕ, suc, ◌*◌, ◌<◌, cond, Bool, true, false, nat_le, List, [], ◌∷◌, ◌++◌, length, take, drop, get_or, Option, Some, None, Result, Ok, Err, codes, refl, sym, ap, subst, ◌∙◌, inl, inr, arith, mul-one}
use Rattle.std.specs.List.{AllByRecursion, AllZip, flat_map}
use Rattle.std.proofs.lemmas.Bool.{cases_order}
use Rattle.std.proofs.lemmas.List.{length-drop, take-append-drop}
use Rattle.serde_json.specs.Data.{Data}
use Rattle.hdf_types.specs.Elems.{Elem}
use Rattle.hdf_types.specs.Reading.{size_of}
use Rattle.hdf_values.specs.declared.faults.ValueFault.{ValueFault}
use Rattle.hdf_values.specs.Nested.{FitsNested, nested_bytes, nested_decoded, nested_normal, nested_from}
use Rattle.hdf_values.proofs.NestedLemmas.{nested_back, nested_read, are_encoded}
use Rattle.json_trees.specs.Trees.{list_of}
use Rattle.shapes.specs.RowMajor.{IsInside, cell_count}
use Rattle.shapes.specs.declared.Shape.{Shape}
use Rattle.shapes.specs.declared.Shape.TheVariants.{Null, Scalar, Simple}
use Rattle.shapes.specs.Shapes.{LiesIn, resized_of}
use Rattle.shapes.specs.declared.ShapeFault.{ShapeFault}
use Rattle.hyperslab.specs.declared.Slab.{Slab}
use Rattle.hyperslab.specs.declared.SlabFault.{SlabFault}
use Rattle.hyperslab.specs.Judged.{lists_slab, lists_in, judged_lists}
use Rattle.hyperslab.specs.Selected.{AreApart, IsSlab, SlabIn, extents, slab_cells}
use Rattle.hyperslab.proofs.CellLemmas.{cells_counted, cells_apart, cells_within}
use Rattle.point_select.specs.declared.PointFault.{PointFault}
use Rattle.point_select.specs.Faults.{points_of}
use Rattle.point_select.specs.Points.{IsPoint, SpellsPoints}
use Rattle.chunk_store.specs.Cells.{put}
use Rattle.chunk_store.specs.Listed.{IsOnce}
use Rattle.chunk_store.specs.Grids.{Grid, IsWhole, value_at, reads, written, writes}
use Rattle.chunk_store.proofs.KeyLemmas.{put_here, put_cases}
use Rattle.chunk_store.proofs.GridLemmas.{reads_same, value-tabulated}
use Rattle.chunk_store.proofs.PickLemmas.{each_all}
use Rattle.object_ops.specs.declared.ops.Part.{Part}
use Rattle.object_ops.specs.declared.ops.Part.TheVariants as part
use Rattle.object_ops.specs.declared.refusals.Refusal.{Refusal}
use Rattle.object_ops.specs.declared.refusals.Refusal.TheVariants.{TooMany}
use Rattle.object_ops.specs.declared.replies.Reply.TheVariants.{Done, Refused}
use Rattle.object_ops.specs.Replies.{nothing, only}
use Rattle.object_acts.specs.Arrays.Faults.{most_bytes}
use Rattle.object_acts.specs.Arrays.Arrays.{bytes_for, bytes_read, bytes_written, dims_taken, nested_by, or_refused, part_read, part_tree, points_read, points_read_in, points_tree, points_written, selected_by, shape_changed, slab_written, tree_written, value_read, value_written}

-- ---- cells apart

-- a cell that is not written keeps its bytes
written_other : (k : ℕ) (ats : List (List ℕ)) (f : List ℕ → List ℕ) (bs q : List ℕ) → ((j : ℕ) → j < length ats → get_or ats j [] ≡ q → ⊥) → written f k ats bs q ≡ f q
written_other k [] f bs q away = refl
written_other k (at ∷ ats) f bs q away =
    written_other k ats (put f at (take k bs)) (drop k bs) q (λ j h e. away (suc j) (omega (arith, h)) e)
    ∙ elim (put_cases f at (take k bs) q) [
      | inl same ↦ absurd (away 0 (omega arith) same.0)
      | inr other ↦ other
    ]

-- cells that are apart have the bytes that were written
read-written : (k : ℕ) (ats : List (List ℕ)) (f : List ℕ → List ℕ) (bs : List ℕ) → AreApart ats → length bs ≡ length ats * k → flat_map (written f k ats bs) ats ≡ bs
read-written k [] f [] apart size = refl
read-written k [] f (b ∷ bs) apart size = absurd (omega (arith, size))
read-written k (at ∷ ats) f bs apart size =
    let g = put f at (take k bs) in
    let rest = drop k bs in
    let away : (j : ℕ) → j < length ats → get_or ats j [] ≡ at → ⊥ = λ j h e.
    let same : 0 ≡ suc j = apart 0 (suc j) (omega arith) (omega (arith, h)) (sym e) in
    omega (arith, same) in
    let head : written g k ats rest at ≡ take k bs = written_other k ats g rest at away ∙ put_here f at (take k bs) in
    let others : AreApart ats = λ p q low_p low_q e.
    let same : suc p ≡ suc q = apart (suc p) (suc q) (omega (arith, low_p)) (omega (arith, low_q)) e in
    omega (arith, same) in
    let shorter : length rest ≡ length ats * k = omega (arith, size, length-drop k bs) in
    let tail : flat_map (written g k ats rest) ats ≡ rest = read-written k ats g rest others shorter in
    ap (λ x. x ++ flat_map (written g k ats rest) ats) head ∙ ap (λ xs. take k bs ++ xs) tail ∙ take-append-drop k bs

reads-writes : (g : Grid) (s : Slab) (bs : List ℕ) → IsSlab s → SlabIn s g.shape → length bs ≡ cell_count (extents s) * size_of g.kind → reads (writes g (slab_cells s g.shape) bs) (slab_cells s g.shape) ≡ bs
reads-writes g s bs slab inside size =
    let cells = slab_cells s g.shape in
    let f = written (value_at g) (size_of g.kind) cells bs in
    let many : length bs ≡ length cells * size_of g.kind = size ∙ ap (λ n. n * size_of g.kind) (sym (cells_counted s g.shape slab inside)) in
    reads_same (λ at. LiesIn at g.shape) (value_at (writes g cells bs)) f (λ at h. value-tabulated g.kind g.shape g.chunk g.fill f at h) cells (each_all (λ at. LiesIn at g.shape) cells (cells_within s g.shape))
    ∙ read-written (size_of g.kind) cells (value_at g) bs (cells_apart s g.shape slab inside) many

-- ---- a write that was done

-- the tree was read, and its bytes went to the cells
pub written_done : (g : Grid) (ats : List (List ℕ)) (r : Result (List ℕ) Refusal) → (bytes_written g ats r).0 ≡ Done 200 nothing
    → (bs : List ℕ) × (r ≡ Ok bs) × ((bytes_written g ats r).1 ≡ writes g ats bs)
written_done g ats (Err refusal) done = absurd cc
written_done g ats (Ok bs) done = (bs, refl, refl)

pub limited_ok : (few : Bool) (r : Result (List ℕ) ValueFault) (refusal : Refusal) (bs : List ℕ) → cond few (or_refused r) (Err refusal) ≡ Ok bs → (few ≡ true) × (r ≡ Ok bs)
limited_ok true (Ok xs) refusal bs e =
    let same : xs ≡ bs = cc in
    (refl, ap (λ x. Ok x) same)
limited_ok true (Err f) refusal bs e = absurd cc
limited_ok false r refusal bs e = absurd cc

not_null : (shape : Shape) (e : Elem) (dims bs : List ℕ) → (shape ≡ Null → ⊥) → nested_by shape e dims bs ≡ nested_decoded e dims bs
not_null Null e dims bs h = absurd (h refl)
not_null Scalar e dims bs h = refl
not_null (Simple all limits) e dims bs h = refl

null_lists : (o : Option Slab) (s : Slab) → judged_lists Null o ≡ Ok s → ⊥
null_lists None s e = cc
null_lists (Some t) s e = cc

-- a shape without a cell has no part that is written
lists_some : (shape : Shape) (start stop step : Option Data) (s : Slab) → lists_slab shape start stop step ≡ Ok s → shape ≡ Null → ⊥
lists_some shape start stop step s e null =
    let P : Shape → Type 0 = λ x. lists_slab x start stop step ≡ Ok s in
    null_lists (lists_in [] start stop step) s (subst P null e)

part_done : (g : Grid) (s : Slab) → nat_le (bytes_for g (length (slab_cells s g.shape))) most_bytes ≡ true → part_read g (Ok s) ≡ Done 200 (only (codes "value") (part_tree g s))
part_done g s few = rw few refl

part_back : (g : Grid) (s : Slab) (select : Option (List ℕ)) (d : Data) → IsWhole g → IsSlab s → SlabIn s g.shape → (g.shape ≡ Null → ⊥) → selected_by select g.shape ≡ Ok s
    → FitsNested g.kind (extents s) d → (tree_written g (slab_cells s g.shape) (extents s) d).0 ≡ Done 200 nothing
    → value_read select (tree_written g (slab_cells s g.shape) (extents s) d).1 ≡ Done 200 (only (codes "value") (nested_normal g.kind (extents s) d))
part_back g s select d whole slab inside some selects fits done =
    let cells = slab_cells s g.shape in
    let dims = extents s in
    let (bs, read, left) = written_done g cells (bytes_read g (length cells) dims d) done in
    let (few, ok) = limited_ok (nat_le (bytes_for g (length cells)) most_bytes) (nested_from g.kind dims 0 d) (TooMany (bytes_for g (length cells)) most_bytes) bs read in
    let exact : nested_from g.kind dims 0 d ≡ Ok (nested_bytes g.kind dims d) = nested_read g.kind dims 0 d fits in
    let same : bs ≡ nested_bytes g.kind dims d = cc in
    let size : length bs ≡ cell_count dims * size_of g.kind = ap length same ∙ (are_encoded g.kind dims d whole.kind fits).whole in
    let after = writes g cells bs in
    let tree : part_tree after s ≡ nested_normal g.kind dims d =
    not_null g.shape g.kind dims (reads after cells) some
    ∙ ap (nested_decoded g.kind dims) (reads-writes g s bs slab inside size ∙ same)
    ∙ nested_back g.kind dims d whole.kind fits in
    ap (value_read select) left ∙ ap (part_read after) selects ∙ part_done after s few ∙ ap (λ t. Done 200 (only (codes "value") t)) tree

pub slab_back : (g : Grid) (s : Slab) (start stop step : Option Data) (select : Option (List ℕ)) (d : Data) → IsWhole g → IsSlab s → SlabIn s g.shape
    → lists_slab g.shape start stop step ≡ Ok s → selected_by select g.shape ≡ Ok s → FitsNested g.kind (extents s) d
    → (value_written (part.Slab start stop step) d g).0 ≡ Done 200 nothing
    → value_read select (value_written (part.Slab start stop step) d g).1 ≡ Done 200 (only (codes "value") (nested_normal g.kind (extents s) d))
slab_back g s start stop step select d whole slab inside lists selects fits done =
    let some = lists_some g.shape start stop step s lists in
    let P : Result Slab SlabFault → Type 0 = λ r.
    (slab_written g d r).0 ≡ Done 200 nothing → value_read select (slab_written g d r).1 ≡ Done 200 (only (codes "value") (nested_normal g.kind (extents s) d)) in
    subst P (sym lists) (part_back g s select d whole slab inside some selects fits) done

-- ---- points

each_inside : (dims : List ℕ) (ds : List Data) (ps : List (List ℕ)) → AllZip (IsPoint dims) ds ps → AllByRecursion (λ at. IsInside at dims) ps
each_inside dims [] [] h = tt
each_inside dims [] (p ∷ ps) h = absurd h
each_inside dims (d ∷ ds) [] h = absurd h
each_inside dims (d ∷ ds) (p ∷ ps) h = (h.0.1, each_inside dims ds ps h.1)

-- what a tree spells lies in the shape
pub spelled_inside : (d : Data) (shape : Shape) (ps : List (List ℕ)) → SpellsPoints d shape ps → AllByRecursion (λ at. LiesIn at shape) ps
spelled_inside d Null ps h = absurd h
spelled_inside d Scalar ps h = absurd h
spelled_inside d (Simple dims limits) ps h = each_inside dims (list_of h.0) ps h.3

reads-points : (g : Grid) (ps : List (List ℕ)) (bs : List ℕ) → AllByRecursion (λ at. LiesIn at g.shape) ps → AreApart ps → length bs ≡ length ps * size_of g.kind → reads (writes g ps bs) ps ≡ bs
reads-points g ps bs inside apart size =
    let f = written (value_at g) (size_of g.kind) ps bs in
    reads_same (λ at. LiesIn at g.shape) (value_at (writes g ps bs)) f (λ at h. value-tabulated g.kind g.shape g.chunk g.fill f at h) ps inside
    ∙ read-written (size_of g.kind) ps (value_at g) bs apart size

points_done : (g : Grid) (ps : List (List ℕ)) → nat_le (bytes_for g (length ps)) most_bytes ≡ true → points_read_in g (Ok ps) ≡ Done 200 (only (codes "value") (points_tree g ps))
points_done g ps few = rw few refl

-- points that are apart have the elements that were written
once_apart : (ats : List (List ℕ)) → IsOnce ats → AreApart ats
once_apart ats once p q low_p low_q e =
    elim (cases_order p q) [
      | inl same ↦ same
      | inr rest ↦ elim rest [ inl less ↦ absurd (once p q less low_q e) | inr more ↦ absurd (once q p more low_p (sym e)) ]
    ]

apart_back : (g : Grid) (points d : Data) (ps : List (List ℕ)) → IsWhole g → points_of points g.shape ≡ Ok ps → AllByRecursion (λ at. LiesIn at g.shape) ps → IsOnce ps
    → FitsNested g.kind (length ps ∷ []) d → (tree_written g ps (length ps ∷ []) d).0 ≡ Done 200 nothing
    → points_read points (tree_written g ps (length ps ∷ []) d).1 ≡ Done 200 (only (codes "value") (nested_normal g.kind (length ps ∷ []) d))
apart_back g points d ps whole spelled inside once fits done =
    let dims = length ps ∷ [] in
    let (bs, read, left) = written_done g ps (bytes_read g (length ps) dims d) done in
    let (few, ok) = limited_ok (nat_le (bytes_for g (length ps)) most_bytes) (nested_from g.kind dims 0 d) (TooMany (bytes_for g (length ps)) most_bytes) bs read in
    let exact : nested_from g.kind dims 0 d ≡ Ok (nested_bytes g.kind dims d) = nested_read g.kind dims 0 d fits in
    let same : bs ≡ nested_bytes g.kind dims d = cc in
    let whole_size : length bs ≡ length ps * 1 * size_of g.kind = ap length same ∙ (are_encoded g.kind dims d whole.kind fits).whole in
    let size : length bs ≡ length ps * size_of g.kind = whole_size ∙ ap (λ n. n * size_of g.kind) (mul-one (length ps)) in
    let after = writes g ps bs in
    let tree : points_tree after ps ≡ nested_normal g.kind dims d =
    ap (nested_decoded g.kind dims) (reads-points g ps bs inside (once_apart ps once) size ∙ same) ∙ nested_back g.kind dims d whole.kind fits in
    ap (points_read points) left ∙ ap (points_read_in after) spelled ∙ points_done after ps few ∙ ap (λ t. Done 200 (only (codes "value") t)) tree

pub points_back : (g : Grid) (points d : Data) (ps : List (List ℕ)) → IsWhole g → points_of points g.shape ≡ Ok ps → AllByRecursion (λ at. LiesIn at g.shape) ps → IsOnce ps
    → FitsNested g.kind (length ps ∷ []) d → (value_written (part.Points points) d g).0 ≡ Done 200 nothing
    → points_read points (value_written (part.Points points) d g).1 ≡ Done 200 (only (codes "value") (nested_normal g.kind (length ps ∷ []) d))
points_back g points d ps whole spelled inside once fits done =
    let P : Result (List (List ℕ)) PointFault → Type 0 = λ r.
    (points_written g d r).0 ≡ Done 200 nothing → points_read points (points_written g d r).1 ≡ Done 200 (only (codes "value") (nested_normal g.kind (length ps ∷ []) d)) in
    subst P (sym spelled) (apart_back g points d ps whole spelled inside once fits) done

-- ---- refusals

bytes_kept : (g : Grid) (ats : List (List ℕ)) (r : Result (List ℕ) Refusal) (refusal : Refusal) → (bytes_written g ats r).0 ≡ Refused refusal → (bytes_written g ats r).1 ≡ g
bytes_kept g ats (Err f) refusal e = refl
bytes_kept g ats (Ok bs) refusal e = absurd cc

slab_kept : (g : Grid) (d : Data) (r : Result Slab SlabFault) (refusal : Refusal) → (slab_written g d r).0 ≡ Refused refusal → (slab_written g d r).1 ≡ g
slab_kept g d (Err f) refusal e = refl
slab_kept g d (Ok s) refusal e = bytes_kept g (slab_cells s g.shape) (bytes_read g (length (slab_cells s g.shape)) (extents s) d) refusal e

points_kept : (g : Grid) (d : Data) (r : Result (List (List ℕ)) PointFault) (refusal : Refusal) → (points_written g d r).0 ≡ Refused refusal → (points_written g d r).1 ≡ g
points_kept g d (Err f) refusal e = refl
points_kept g d (Ok ps) refusal e = bytes_kept g ps (bytes_read g (length ps) (length ps ∷ []) d) refusal e

pub value_kept : (g : Grid) (p : Part) (d : Data) (refusal : Refusal) → (value_written p d g).0 ≡ Refused refusal → (value_written p d g).1 ≡ g
value_kept g (part.Slab start stop step) d refusal e = slab_kept g d (lists_slab g.shape start stop step) refusal e
value_kept g (part.Points points) d refusal e = points_kept g d (points_of points g.shape) refusal e

dims_kept : (g : Grid) (dims : List ℕ) (r : Result Shape ShapeFault) (refusal : Refusal) → (dims_taken dims g r).0 ≡ Refused refusal → (dims_taken dims g r).1 ≡ g
dims_kept g dims (Err f) refusal e = refl
dims_kept g dims (Ok shape) refusal e = absurd cc

pub shape_kept : (g : Grid) (dims : List ℕ) (refusal : Refusal) → (shape_changed dims g).0 ≡ Refused refusal → (shape_changed dims g).1 ≡ g
shape_kept g dims refusal e = dims_kept g dims (resized_of g.shape dims) refusal e
