-- The first selected cell.
use Rattle.std.proofs.Common.{◌≡◌, ℕ, zero, suc, ◌+◌, ◌*◌, ◌-◌, ◌/◌, ◌%◌, ◌<◌, ◌≤◌, Bool, true, false, cond, List, [], ◌∷◌, ◌++◌, length, take, drop, get_or, slice_set, map, Option, Some, None, ◌⊎◌, ◌&&◌, inl, inr, nat_eq, nat_le, nat_lt, refl, sym, ap, subst, ◌∙◌, arith}
use Rattle.std.proofs.Math.Nat.{div-le_self, mod-le}
use Rattle.std.proofs.lemmas.Bool.{cases_lt, lt-ltb, le-ltb, and_parts, ltb-true}
use Rattle.std.proofs.lemmas.List.{append-nil, drop_all, drop_more, length-append, length-drop, length-take-le, take_all}
use Rattle.shapes.specs.RowMajor.{cell_count, IsInside, linear_index, digits_by}
use Rattle.shapes.proofs.CellLemmas.{digits_in}
use Rattle.shapes.proofs.RowMajorLemmas.{index_below, index_once}
use Rattle.hyperslab.specs.declared.Slab.{Slab}
use Rattle.hyperslab.specs.Selected.{Axis, AreAxes, IsSlab, axes, axes_of, is_on, is_at, extent, extents, point, cell_at}
use Rattle.hyperslab.proofs.AxisLemmas.{axis_at, axes_end, axes_from, axes_more, length-axes}
use Rattle.hyperslab.proofs.SelectLemmas.{point_below}
use Rattle.hyperslab.proofs.CellLemmas.{extent_above, cell_selected, cell_each}

abbrev pub starts : List Axis → List ℕ
starts [] = []
starts (x ∷ xs) = x.lo ∷ starts xs

abbrev zeros : List Axis → List ℕ
zeros [] = []
zeros (x ∷ xs) = 0 ∷ zeros xs

point_zeros : (xs : List Axis) → point (zeros xs) xs ≡ starts xs
point_zeros [] = refl
point_zeros (x ∷ xs) =
    let here : x.lo + 0 * x.by ≡ x.lo = omega arith in
    ap (λ n. n ∷ point (zeros xs) xs) here ∙ ap (λ ns. x.lo ∷ ns) (point_zeros xs)

digits_none : (xs : List Axis) (k : ℕ) → k ≡ 0 → digits_by (map extent xs) k ≡ zeros xs
digits_none [] k e = refl
digits_none (x ∷ xs) k e =
    let c = cell_count (map extent xs) in
    let first : k / c ≡ 0 = omega (arith, div-le_self k c, e) in
    let rest : k % c ≡ 0 = omega (arith, mod-le k c, e) in
    ap (λ n. n ∷ digits_by (map extent xs) (k % c)) first ∙ ap (λ ns. 0 ∷ ns) (digits_none xs (k % c) rest)

starts_axes : (los his bys : List ℕ) → length his ≡ length los → length bys ≡ length los → starts (axes los his bys) ≡ los
starts_axes [] his bys h k = refl
starts_axes (a ∷ los) [] bys h k = absurd (omega arith)
starts_axes (a ∷ los) (b ∷ his) [] h k = absurd (omega arith)
starts_axes (a ∷ los) (b ∷ his) (c ∷ bys) h k = ap (λ ns. a ∷ ns) (starts_axes los his bys (omega arith) (omega arith))

pub first_cell : (s : Slab) → IsSlab s → s.start ≡ cell_at s 0
first_cell s h =
    let xs = axes_of s in
    sym (starts_axes s.start s.stop s.step h.ranked.stops h.ranked.steps) ∙ sym (point_zeros xs) ∙ ap (λ ks. point ks xs) (sym (digits_none xs 0 refl))
