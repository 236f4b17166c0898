-- The selected cells by number, and each of them once.
use Rattle.std.proofs.Common.{◌≡◌, ℕ, suc, ◌+◌, ◌*◌, ◌-◌, ◌/◌, ◌%◌, ◌<◌, ◌≤◌, ◌&&◌, true, List, [], ◌∷◌, All, length, get_or, map, inl, inr, nat_eq, nat_lt, nat_le, refl, sym, ap, ◌∙◌, arith}
use Rattle.std.specs.List.{AllZip}
use Rattle.std.proofs.lemmas.Nat.{mul-le, le-div, div-add-mod', mod-mul-add}
use Rattle.std.proofs.lemmas.Bool.{cases_lt, lt-ltb, le-leb, eq-eqb, leb-true, ltb-true, eqb-true, and_parts, and_from}
use Rattle.shapes.specs.RowMajor.{cell_count, IsInside, digits_by, linear_index}
use Rattle.std.proofs.lemmas.List.Elements.{All-filter}
use Rattle.shapes.specs.Shapes.{LiesIn, cells_of}
use Rattle.shapes.proofs.CellLemmas.{digits_in, cells_inside as cells_lie}
use Rattle.shapes.specs.declared.Shape.{Shape}
use Rattle.shapes.specs.declared.Shape.TheVariants.{Null, Scalar, Simple}
use Rattle.shapes.proofs.RowMajorLemmas.{index_below, index_once}
use Rattle.hyperslab.specs.declared.Slab.{Slab}
use Rattle.hyperslab.specs.Selected.{Axis, AreAxes, IsSlab, FitsIn, SlabIn, AreApart, axes_of, is_on, is_at, extent, extents, point, selected, slab_cells, cell_at}
use Rattle.hyperslab.proofs.AxisLemmas.{axis_with, extent_some}
use Rattle.hyperslab.proofs.SelectLemmas.{selected_at, selected_count, point_below}

-- ---- steps and numbers of an axis

-- a number before the end is a step below the extent
pub extent_above : (a h c k : ℕ) → 1 ≤ c → a + k * c < h → k < extent (axis_with a h c)
extent_above a h c k l m =
    let some : a < h = omega arith in
    let few : k ≤ (h - a - 1) / c = le-div k (h - a - 1) c (omega arith) (omega arith) in
    omega (arith, few, extent_some a h c some)

on_step : (a b c k : ℕ) → 1 ≤ c → k < extent (axis_with a b c) → is_on (axis_with a b c) (a + k * c) ≡ true
on_step a b c k h l =
    let n = a + k * c in
    let past : n - a ≡ k * c + 0 = omega arith in
    let none : (n - a) % c ≡ 0 = ap (λ m. m % c) past ∙ mod-mul-add k c 0 h in
    let both = and_from (nat_le a n) (nat_lt n b) (le-leb a n (omega arith)) (lt-ltb n b (point_below a b c k h l)) in
    and_from (nat_le a n && nat_lt n b) (nat_eq ((n - a) % c) 0) both (eq-eqb ((n - a) % c) 0 none)

step_on : (a b c n : ℕ) → 1 ≤ c → is_on (axis_with a b c) n ≡ true → (k : ℕ) × (k < extent (axis_with a b c)) × (a + k * c ≡ n)
step_on a b c n h e =
    let one = and_parts (nat_le a n && nat_lt n b) (nat_eq ((n - a) % c) 0) e in
    let two = and_parts (nat_le a n) (nat_lt n b) one.0 in
    let low = leb-true a n two.0 in
    let high = ltb-true n b two.1 in
    let none = eqb-true ((n - a) % c) 0 one.1 in
    let same : a + (n - a) / c * c ≡ n = omega (arith, div-add-mod' (n - a) c, none, low) in
    ((n - a) / c, extent_above a b c ((n - a) / c) h (omega (arith, same, high)), same)

-- ---- all axes

pub point_at : (ks : List ℕ) (xs : List Axis) → AreAxes xs → IsInside ks (map extent xs) → is_at xs (point ks xs) ≡ true
point_at [] [] h l = refl
point_at [] (x ∷ xs) h l = absurd l
point_at (k ∷ ks) [] h l = absurd l
point_at (k ∷ ks) (x ∷ xs) h l = and_from (is_on x (x.lo + k * x.by)) (is_at xs (point ks xs)) (on_step x.lo x.hi x.by k h.0.2 l.0) (point_at ks xs h.1 l.1)

at_point : (xs : List Axis) (at : List ℕ) → AreAxes xs → is_at xs at ≡ true → (ks : List ℕ) × IsInside ks (map extent xs) × (point ks xs ≡ at)
at_point [] [] h e = ([], tt, refl)
at_point [] (n ∷ ns) h e = cc
at_point (x ∷ xs) [] h e = cc
at_point (x ∷ xs) (n ∷ ns) h e =
    let parts = and_parts (is_on x n) (is_at xs ns) e in
    let here = step_on x.lo x.hi x.by n h.0.2 parts.0 in
    let rest = at_point xs ns h.1 parts.1 in
    (here.0 ∷ rest.0, (here.1, rest.1), ap (λ m. m ∷ point rest.0 xs) here.2 ∙ ap (λ ms. n ∷ ms) rest.2)

point_inside : (ks : List ℕ) (xs : List Axis) (dims : List ℕ) → AreAxes xs → AllZip (λ x n. x.hi ≤ n) xs dims → IsInside ks (map extent xs) → IsInside (point ks xs) dims
point_inside [] [] [] h k l = tt
point_inside (j ∷ ks) [] dims h k l = absurd l
point_inside [] (x ∷ xs) dims h k l = absurd l
point_inside ks [] (n ∷ ns) h k l = absurd k
point_inside (j ∷ ks) (x ∷ xs) [] h k l = absurd k
point_inside (j ∷ ks) (x ∷ xs) (n ∷ ns) h k l = (omega (arith, point_below x.lo x.hi x.by j h.0.2 l.0, k.0), point_inside ks xs ns h.1 k.1 l.1)

same_step : (a c k l : ℕ) → 1 ≤ c → a + k * c ≡ a + l * c → k ≡ l
same_step a c k l h e = elim (cases_lt k l) [
  | inl less ↦ absurd (omega (arith, e, h, mul-le (suc k) c l c (omega arith) (omega arith)))
  | inr other ↦ elim (cases_lt l k) [
    | inl more ↦ absurd (omega (arith, e, h, mul-le (suc l) c k c (omega arith) (omega arith)))
    | inr neither ↦ omega arith
  ]
]

point_once : (ks ls : List ℕ) (xs : List Axis) → AreAxes xs → IsInside ks (map extent xs) → IsInside ls (map extent xs) → point ks xs ≡ point ls xs → ks ≡ ls
point_once [] [] [] h k l e = refl
point_once [] (m ∷ ls) [] h k l e = absurd l
point_once (n ∷ ks) ls [] h k l e = absurd k
point_once [] ls (x ∷ xs) h k l e = absurd k
point_once (n ∷ ks) [] (x ∷ xs) h k l e = absurd l
point_once (n ∷ ks) (m ∷ ls) (x ∷ xs) h k l e =
    let first : x.lo + n * x.by ≡ x.lo + m * x.by = cc in
    let more : point ks xs ≡ point ls xs = cc in
    ap (λ i. i ∷ ks) (same_step x.lo x.by n m h.0.2 first) ∙ ap (λ is. m ∷ is) (point_once ks ls xs h.1 k.1 l.1 more)

-- ---- the cells by number

pub cell_selected : (s : Slab) (k : ℕ) → IsSlab s → k < cell_count (extents s) → is_at (axes_of s) (cell_at s k) ≡ true
cell_selected s k h l = point_at (digits_by (extents s) k) (axes_of s) h.sound (digits_in (extents s) k l).0

pub digits_back : (ks ms : List ℕ) → IsInside ks ms → digits_by ms (linear_index ks ms) ≡ ks
digits_back ks ms h =
    let lies = digits_in ms (linear_index ks ms) (index_below ks ms h) in
    index_once (digits_by ms (linear_index ks ms)) ks ms lies.0 h lies.1

pub cell_indexed : (s : Slab) (ks : List ℕ) → IsSlab s → IsInside ks (extents s) → cell_at s (linear_index ks (extents s)) ≡ point ks (axes_of s)
cell_indexed s ks h inside = ap (λ ns. point ns (axes_of s)) (digits_back ks (extents s) inside)

pub cell_each : (s : Slab) (at : List ℕ) → IsSlab s → is_at (axes_of s) at ≡ true → (k : ℕ) × (k < cell_count (extents s)) × (cell_at s k ≡ at)
cell_each s at h e =
    let found = at_point (axes_of s) at h.sound e in
    (linear_index found.0 (extents s), index_below found.0 (extents s) found.1, cell_indexed s found.0 h found.1 ∙ found.2)

pub cell_once : (s : Slab) (k l : ℕ) → IsSlab s → k < cell_count (extents s) → l < cell_count (extents s) → cell_at s k ≡ cell_at s l → k ≡ l
cell_once s k l h low_k low_l e =
    let ms = extents s in
    let one = digits_in ms k low_k in
    let two = digits_in ms l low_l in
    let same = point_once (digits_by ms k) (digits_by ms l) (axes_of s) h.sound one.0 two.0 e in
    sym one.1 ∙ ap (λ ks. linear_index ks ms) same ∙ two.1

pub cell_listed : (s : Slab) (dims : List ℕ) (k : ℕ) → IsSlab s → FitsIn s dims → k < cell_count (extents s) → get_or (selected s dims) k [] ≡ cell_at s k
cell_listed s dims k h fits l =
    let lies = digits_in (extents s) k l in
    ap (λ n. get_or (selected s dims) n []) (sym lies.1) ∙ selected_at (axes_of s) dims (digits_by (extents s) k) h.sound fits lies.0

-- ---- the cells of a shape

pub cells_counted : (s : Slab) (shape : Shape) → IsSlab s → SlabIn s shape → length (slab_cells s shape) ≡ cell_count (extents s)
cells_counted s Null h k = sym k
cells_counted s Scalar h k = selected_count (axes_of s) [] h.sound k
cells_counted s (Simple dims limits) h k = selected_count (axes_of s) dims h.sound k

pub cells_listed : (s : Slab) (shape : Shape) (k : ℕ) → IsSlab s → SlabIn s shape → k < cell_count (extents s) → get_or (slab_cells s shape) k [] ≡ cell_at s k
cells_listed s Null k h fits l = absurd (omega (arith, fits, l))
cells_listed s Scalar k h fits l = cell_listed s [] k h fits l
cells_listed s (Simple dims limits) k h fits l = cell_listed s dims k h fits l

pub cells_inside : (s : Slab) (shape : Shape) (k : ℕ) → IsSlab s → SlabIn s shape → k < cell_count (extents s) → LiesIn (cell_at s k) shape
cells_inside s Null k h fits l = absurd (omega (arith, fits, l))
cells_inside s Scalar k h fits l = point_inside (digits_by (extents s) k) (axes_of s) [] h.sound fits (digits_in (extents s) k l).0
cells_inside s (Simple dims limits) k h fits l = point_inside (digits_by (extents s) k) (axes_of s) dims h.sound fits (digits_in (extents s) k l).0

pub cells_apart : (s : Slab) (shape : Shape) → IsSlab s → SlabIn s shape → AreApart (slab_cells s shape)
cells_apart s shape h fits p q low_p low_q e =
    let many = cells_counted s shape h fits in
    let few_p : p < cell_count (extents s) = omega (arith, low_p, many) in
    let few_q : q < cell_count (extents s) = omega (arith, low_q, many) in
    cell_once s p q h few_p few_q (sym (cells_listed s shape p h fits few_p) ∙ e ∙ cells_listed s shape q h fits few_q)

pub cells_within : (s : Slab) (shape : Shape) → All (λ at. LiesIn at shape) (slab_cells s shape)
cells_within s Null = cells_lie Null
cells_within s Scalar = All-filter (is_at (axes_of s)) (λ at. LiesIn at Scalar) (cells_of Scalar) (cells_lie Scalar)
cells_within s (Simple dims limits) = All-filter (is_at (axes_of s)) (λ at. LiesIn at (Simple dims limits)) (cells_of (Simple dims limits)) (cells_lie (Simple dims limits))
