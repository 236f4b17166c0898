-- The selection of all cells selects each of them.
use Rattle.std.proofs.Common.{◌≡◌, ℕ, zero, suc, ◌+◌, ◌≤◌, List, [], ◌∷◌, All, map, length, replicate, refl, ap, subst, ◌∙◌, arith}
use Rattle.std.specs.Prelude.{IfOk}
use Rattle.shapes.specs.declared.Shape.{Shape}
use Rattle.shapes.specs.declared.Shape.TheVariants.{Null, Scalar, Simple}
use Rattle.shapes.specs.declared.TheConstants.{MAX_EXTENT}
use Rattle.shapes.specs.RowMajor.{grid, run_from, coordinates}
use Rattle.shapes.specs.Shapes.{IsSound, cells_of}
use Rattle.hyperslab.specs.declared.Slab.{Slab}
use Rattle.hyperslab.specs.Selected.{axes, axes_of, extents, selected, slab_cells}
use Rattle.hyperslab.specs.Judged.{bounded, all_of, whole_of}
use Rattle.hyperslab.proofs.AxisLemmas.{extent_all, extents_all, axes_all}
use Rattle.hyperslab.proofs.SelectLemmas.{steps_from, numbers, selected_grid}
use Rattle.hyperslab.proofs.WithinLemmas.{if_ok, bounded_ok, all_fits}

one_apart : (a n : ℕ) → steps_from a 1 n ≡ run_from a n
one_apart a zero = refl
one_apart a (suc n) =
    let next : a + 1 ≡ suc a = omega arith in
    ap (λ ns. a ∷ ns) (ap (λ m. steps_from m 1 n) next ∙ one_apart (suc a) n)

all_numbers : (dims : List ℕ) → map numbers (axes (replicate (length dims) 0) dims (replicate (length dims) 1)) ≡ map (λ n. run_from 0 n) dims
all_numbers [] = refl
all_numbers (n ∷ ns) =
    ap (λ ms. ms ∷ map numbers (axes (replicate (length ns) 0) ns (replicate (length ns) 1))) (ap (steps_from 0 1) (extent_all n) ∙ one_apart 0 n)
    ∙ ap (λ rows. run_from 0 n ∷ rows) (all_numbers ns)

all_selected : (dims : List ℕ) → All (λ n. n ≤ MAX_EXTENT) dims → selected (all_of dims) dims ≡ coordinates dims
all_selected dims small = selected_grid (axes_of (all_of dims)) dims (axes_all dims small) (all_fits dims) ∙ ap grid (all_numbers dims)

pub whole_cells : (shape : Shape) → IsSound shape → IfOk (whole_of shape) (λ s. slab_cells s shape ≡ cells_of shape)
whole_cells Null h = refl
whole_cells Scalar h = refl
whole_cells (Simple dims limits) h =
    let P = λ (s : Slab). selected s dims ≡ coordinates dims in
    if_ok (bounded (all_of dims)) P (λ t e. subst P (bounded_ok (all_of dims) t e) (all_selected dims h.small_dims))

pub whole_extents : (shape : Shape) (dims limits : List ℕ) → shape ≡ Simple dims limits → IfOk (whole_of shape) (λ s. extents s ≡ dims)
whole_extents Null dims limits e = cc
whole_extents Scalar dims limits e = cc
whole_extents (Simple ns ms) dims limits e =
    let P = λ (s : Slab). extents s ≡ dims in
    let same : ns ≡ dims = cc in
    if_ok (bounded (all_of ns)) P (λ t made. subst P (bounded_ok (all_of ns) t made) (extents_all ns ∙ same))
