-- The axes of a selection, one after another.
use Rattle.std.proofs.Common.{◌≡◌, ℕ, zero, suc, ◌+◌, ◌*◌, ◌-◌, ◌/◌, ◌<◌, ◌≤◌, max, List, [], ◌∷◌, length, drop, get_or, map, All, replicate, Option, Some, None, inl, inr, nat_eq, nat_lt, refl, ap, ◌∙◌, arith, mul_assoc}
use Rattle.std.proofs.Math.Nat.{div-le_self}
use Rattle.std.proofs.lemmas.Nat.{mul-le}
use Rattle.std.proofs.lemmas.Bool.{lt-ltb, le-ltb}
use Rattle.std.proofs.lemmas.Bool.Decides.{nat_tests}
use Rattle.std.proofs.lemmas.List.{drop_more, drop_all}
use Rattle.shapes.specs.RowMajor.{room_of}
use Rattle.shapes.specs.declared.TheConstants.{MAX_EXTENT}
use Rattle.shapes.proofs.RowMajorLemmas.{one-room}
use Rattle.json_trees.proofs.FaultLemmas.{chosen}
use Rattle.hyperslab.specs.declared.SlabFault.{SlabFault}
use Rattle.hyperslab.specs.declared.SlabFault.TheVariants.{Step, Order, Past}
use Rattle.hyperslab.specs.Selected.{Axis, AreAxes, axes, extent}
use Rattle.hyperslab.specs.Judged.{fault_on, first_fault, or_fault}

abbrev pub axis_with : ℕ → ℕ → ℕ → Axis
axis_with a b c = record { lo = a; hi = b; by = c }

abbrev pub axis_at : ℕ → List ℕ → List ℕ → List ℕ → Axis
axis_at i starts stops steps = record { lo = get_or starts i 0; hi = get_or stops i 0; by = get_or steps i 0 }

-- the axes from the number `i` on
abbrev pub axes_from : ℕ → List ℕ → List ℕ → List ℕ → List Axis
axes_from i starts stops steps = axes (drop i starts) (drop i stops) (drop i steps)

pub axes_more : (i : ℕ) (starts stops steps : List ℕ) → i < length starts → i < length stops → i < length steps
    → axes_from i starts stops steps ≡ axis_at i starts stops steps ∷ axes_from (i + 1) starts stops steps
axes_more i starts stops steps h k l = rw (drop_more starts i 0 h, drop_more stops i 0 k, drop_more steps i 0 l) refl

pub axes_end : (i : ℕ) (starts stops steps : List ℕ) → length starts ≤ i → axes_from i starts stops steps ≡ []
axes_end i starts stops steps h = rw (drop_all i starts h) refl

pub length-axes : (starts stops steps : List ℕ) → length stops ≡ length starts → length steps ≡ length starts → length (axes starts stops steps) ≡ length starts
length-axes [] stops steps h k = refl
length-axes (a ∷ starts) [] steps h k = absurd (omega arith)
length-axes (a ∷ starts) (b ∷ stops) [] h k = absurd (omega arith)
length-axes (a ∷ starts) (b ∷ stops) (c ∷ steps) h k = ap suc (length-axes starts stops steps (omega arith) (omega arith))

-- ---- the room of extents

factor_bound : (t m r : ℕ) → 1 ≤ r → t * m ≤ t * (m * r)
factor_bound t m r h =
    let wider : (t * m) * 1 ≤ (t * m) * r = mul-le (t * m) 1 (t * m) r (omega arith) h in
    omega (arith, wider, mul_assoc t m r)

pub room_bound : (t i : ℕ) (dims : List ℕ) → i < length dims → t * max (get_or dims i 0) 1 ≤ t * room_of (drop i dims)
room_bound t i dims h = rw (drop_more dims i 0 h) (factor_bound t (max (get_or dims i 0) 1) (room_of (drop (i + 1) dims)) (one-room (drop (i + 1) dims)))

pub extent-le : (x : Axis) → extent x ≤ x.hi - x.lo
extent-le x =
    let fewer : (x.hi - x.lo - 1) / x.by ≤ x.hi - x.lo - 1 = div-le_self (x.hi - x.lo - 1) x.by in
    grind (arith, nat_tests)

-- ---- axes without a fault

pub no_fault_on : (k n : ℕ) (x : Axis) → fault_on k n x ≡ None → (1 ≤ x.by) × (x.lo ≤ x.hi) × (x.hi ≤ n)
no_fault_on k n x e =
    elim (chosen (nat_eq x.by 0) (Some (Step k)) _ None e) [
      | inl h ↦ cc
      | inr h ↦
          elim (chosen (nat_lt x.hi x.lo) (Some (Order k)) _ None h.1) [
            | inl g ↦ cc
            | inr g ↦
                elim (chosen (nat_lt n x.hi) (Some (Past k)) None None g.1) [
                  | inl f ↦ cc
                  | inr f ↦ (grind (arith, nat_tests, h.0), grind (arith, nat_tests, g.0), grind (arith, nat_tests, f.0))
                ]
          ]
    ]

pub or_none : (f g : Option SlabFault) → or_fault f g ≡ None → (f ≡ None) × (g ≡ None)
or_none None g e = (refl, e)
or_none (Some x) g e = cc

pub sound_axes : (k : ℕ) (dims : List ℕ) (xs : List Axis) → All (λ n. n ≤ MAX_EXTENT) dims → length xs ≡ length dims → first_fault k dims xs ≡ None
    → AreAxes xs × (room_of (map extent xs) ≤ room_of dims)
sound_axes k [] [] small same e = (tt, omega arith)
sound_axes k [] (x ∷ xs) small same e = absurd (omega arith)
sound_axes k (n ∷ ns) [] small same e = absurd (omega arith)
sound_axes k (n ∷ ns) (x ∷ xs) small same e =
    let parts = or_none (fault_on k n x) (first_fault (suc k) ns xs) e in
    let good = no_fault_on k n x parts.0 in
    let within : n ≤ MAX_EXTENT = small 0 0 (omega arith) in
    let rest = sound_axes (suc k) ns xs (λ j d l. small (suc j) d (omega (arith, l))) (omega arith) parts.1 in
    let low : max (extent x) 1 ≤ max n 1 = omega (arith, extent-le x, good.1, good.2) in
    (((good.1, omega (arith, good.2, within), good.0), rest.0), mul-le (max (extent x) 1) (room_of (map extent xs)) (max n 1) (room_of ns) low rest.1)

pub same_axis : (a b c d e f : ℕ) → a ≡ d → b ≡ e → c ≡ f → axis_with a b c ≡ axis_with d e f
same_axis a b c d e f h k l = rw (h, k, l) refl

-- ---- all cells

pub extent_some : (a b c : ℕ) → a < b → extent (axis_with a b c) ≡ (b - a - 1) / c + 1
extent_some a b c h = rw (lt-ltb a b h) refl

pub extent_none : (a b c : ℕ) → b ≤ a → extent (axis_with a b c) ≡ 0
extent_none a b c h = rw (le-ltb a b h) refl

pub extent_all : (n : ℕ) → extent (axis_with 0 n 1) ≡ n
extent_all zero = refl
extent_all (suc n) = extent_some 0 (suc n) 1 (omega arith) ∙ omega arith

pub extents_all : (dims : List ℕ) → map extent (axes (replicate (length dims) 0) dims (replicate (length dims) 1)) ≡ dims
extents_all [] = refl
extents_all (n ∷ ns) = ap (λ m. m ∷ map extent (axes (replicate (length ns) 0) ns (replicate (length ns) 1))) (extent_all n) ∙ ap (λ ms. n ∷ ms) (extents_all ns)

pub axes_all : (dims : List ℕ) → All (λ n. n ≤ MAX_EXTENT) dims → AreAxes (axes (replicate (length dims) 0) dims (replicate (length dims) 1))
axes_all [] small = tt
axes_all (n ∷ ns) small =
    let within : n ≤ MAX_EXTENT = small 0 0 (omega arith) in
    ((omega arith, within, omega arith), axes_all ns (λ j d l. small (suc j) d (omega (arith, l))))
