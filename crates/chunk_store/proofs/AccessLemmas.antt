-- Picked cells by the kinds of picks.
use Rattle.std.proofs.Common.{◌≡◌, ℕ, ◌≤◌, All, List, [], length, Result, Ok, Err, IfOk, refl, sym, subst, ◌∙◌, Bor}
use Rattle.json_trees.proofs.TreeLemmas.{length-AllZip}
use Rattle.shapes.specs.declared.Shape.{Shape}
use Rattle.shapes.specs.declared.Shape.TheVariants.{Null, Scalar, Simple}
use Rattle.shapes.specs.RowMajor.{cell_count}
use Rattle.shapes.specs.Shapes.{dims_of}
use Rattle.hyperslab.specs.declared.Slab.{Slab}
use Rattle.hyperslab.specs.Selected.{Axis, FitsIn, IsSlab, SlabIn, axes_of, extents, selected, slab_cells}
use Rattle.hyperslab.proofs.AxisLemmas.{length-axes}
use Rattle.hyperslab.proofs.SelectLemmas.{selected_grid}
use Rattle.chunk_store.specs.Picked.{PicksIn}
use Rattle.chunk_store.specs.declared.picks.Picks.{Picks}
use Rattle.chunk_store.specs.declared.picks.Picks.TheVariants as picks
use Rattle.chunk_store.proofs.CutLemmas.{lies_rank}

-- ---- a selection

-- what is true of a selection with a cell in a shape
pub record IsSelection (b : Slab) (s : Shape) : Type 0 where
  pub fits : FitsIn b (dims_of s)
  pub cells : selected b (dims_of s) ≡ slab_cells b s
  pub rank : length (dims_of s) ≡ length b.start

axis_rank : (b : Slab) (dims : List ℕ) → IsSlab b → FitsIn b dims → length dims ≡ length b.start
axis_rank b dims h fits = length-AllZip (λ (x : Axis) n. x.hi ≤ n) (axes_of b) dims fits ∙ length-axes b.start b.stop b.step h.ranked.stops h.ranked.steps

pub some_selected : (b : Slab) (s : Shape) → IsSlab b → SlabIn b s → (cell_count (extents b) ≡ 0 → ⊥) → IsSelection b s
some_selected b Null h none some = absurd (some none)
some_selected b Scalar h fits some = record { fits = fits; cells = refl; rank = axis_rank b [] h fits }
some_selected b (Simple dims limits) h fits some = record { fits = fits; cells = refl; rank = axis_rank b dims h fits }

-- the same cells in all dims in which it fits
pub same_selected : (b : Slab) (dims others : List ℕ) → IsSlab b → FitsIn b dims → FitsIn b others → selected b dims ≡ selected b others
same_selected b dims others h fits also = selected_grid (axes_of b) dims h.sound fits ∙ sym (selected_grid (axes_of b) others h.sound also)

pub if_ok : {T E : Type 0} {P Q : T → Type 0} (r : Result T E) → ((x : T) → P x → Q x) → IfOk r P → IfOk r Q
if_ok (Ok x) h p = h x p
if_ok (Err e) h p = tt

-- ---- at what the code has matched

pub points_picked : (p : Picks) (b : Bor (List (List ℕ))) (s : Shape) (n : ℕ) → p ≡ picks.Points b → PicksIn p s → n ≡ length (dims_of s) → All (λ at. length at ≡ n) b.now
points_picked p b s n e h rank = λ k d low. lies_rank _ s ((subst (λ (x : Picks). PicksIn x s) e h).1 k d low) ∙ sym rank
