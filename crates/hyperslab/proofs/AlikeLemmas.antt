-- A step that leads past the end selects what any other such step does.
use Rattle.std.proofs.Common.{◌≡◌, ℕ, ◌-◌, ◌<◌, ◌≤◌, ◌&&◌, List, [], ◌∷◌, inl, inr, nat_eq, nat_lt, nat_le, refl, sym, ap, ◌∙◌, arith}
use Rattle.std.specs.List.{AllZip}
use Rattle.std.proofs.Math.Nat.{mod-eq_of_lt}
use Rattle.std.proofs.lemmas.Bool.{cases_lt}
use Rattle.std.proofs.lemmas.List.Elements.{filter_agree}
use Rattle.shapes.specs.RowMajor.{coordinates}
use Rattle.shapes.specs.declared.Shape.{Shape}
use Rattle.shapes.specs.declared.Shape.TheVariants.{Null, Scalar, Simple}
use Rattle.hyperslab.specs.declared.Slab.{Slab}
use Rattle.hyperslab.specs.Selected.{Axis, IsAlike, axes_of, is_on, is_at, selected, slab_cells}
use Rattle.hyperslab.proofs.AxisLemmas.{axis_with, same_axis}
use Rattle.hyperslab.proofs.SelectLemmas.{on_before, on_past}

on_far : (a b c d n : ℕ) → b - a ≤ c → b - a ≤ d → is_on (axis_with a b c) n ≡ is_on (axis_with a b d) n
on_far a b c d n h k = elim (cases_lt n a) [
  | inl low ↦ on_before a b c n low ∙ sym (on_before a b d n low)
  | inr from ↦ elim (cases_lt n b) [
    | inl within ↦
        let small : n - a < c = omega arith in
        let less : n - a < d = omega arith in
        let one = mod-eq_of_lt small in
        let two = mod-eq_of_lt less in
        ap (λ m. nat_le a n && nat_lt n b && nat_eq m 0) (one ∙ sym two)
    | inr past ↦ on_past a b c n past ∙ sym (on_past a b d n past)
  ]
]

on_alike : (x y : Axis) (n : ℕ) → IsAlike x y → is_on x n ≡ is_on y n
on_alike x y n h =
    let z = axis_with x.lo x.hi y.by in
    let last : is_on z n ≡ is_on y n = ap (λ (w : Axis). is_on w n) (same_axis x.lo x.hi y.by y.lo y.hi y.by h.0 h.1 refl) in
    elim h.2 [
      | inl same ↦ ap (λ (w : Axis). is_on w n) (same_axis x.lo x.hi x.by x.lo x.hi y.by refl refl same) ∙ last
      | inr far ↦ on_far x.lo x.hi x.by y.by n far.0 far.1 ∙ last
    ]

at_alike : (xs ys : List Axis) (at : List ℕ) → AllZip IsAlike xs ys → is_at xs at ≡ is_at ys at
at_alike [] [] at h = refl
at_alike [] (y ∷ ys) at h = absurd h
at_alike (x ∷ xs) [] at h = absurd h
at_alike (x ∷ xs) (y ∷ ys) [] h = refl
at_alike (x ∷ xs) (y ∷ ys) (n ∷ ns) h = ap (λ b. b && is_at xs ns) (on_alike x y n h.0) ∙ ap (λ b. is_on y n && b) (at_alike xs ys ns h.1)

selected_alike : (s t : Slab) (dims : List ℕ) → AllZip IsAlike (axes_of s) (axes_of t) → selected s dims ≡ selected t dims
selected_alike s t dims h = filter_agree (is_at (axes_of s)) (is_at (axes_of t)) (λ at. at_alike (axes_of s) (axes_of t) at h) (coordinates dims)

pub cells_alike : (s t : Slab) (shape : Shape) → AllZip IsAlike (axes_of s) (axes_of t) → slab_cells s shape ≡ slab_cells t shape
cells_alike s t Null h = refl
cells_alike s t Scalar h = selected_alike s t [] h
cells_alike s t (Simple dims limits) h = selected_alike s t dims h
