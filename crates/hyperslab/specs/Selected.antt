-- Which cells a selection selects.
use Rattle.std.specs.Prelude.{◌≡◌, ℕ, ◌+◌, ◌-◌, ◌*◌, ◌/◌, ◌%◌, ◌<◌, ◌≤◌, ◌⊎◌, ◌&&◌, Bool, true, false, List, [], ◌∷◌, map, length, slice_index_or, nat_le, nat_lt, nat_eq, if◌then◌else◌}
use Rattle.std.specs.List.{filter, AllZip}
use Rattle.shapes.specs.RowMajor.{cell_count, coordinates, digits_by, room_of, run_from}
use Rattle.shapes.specs.declared.Shape.{Shape}
use Rattle.shapes.specs.declared.Shape.TheVariants.{Null, Scalar, Simple}
use Rattle.shapes.specs.declared.TheConstants.{MAX_RANK, MAX_EXTENT}
use Rattle.hyperslab.specs.declared.Slab.{Slab}
use Rattle.hyperslab.specs.declared.TheConstants.{MAX_SELECTED}

-- the numbers from `lo` on, `by` apart, that are below `hi`
pub record Axis : Type 0 where
  pub lo : ℕ
  pub hi : ℕ
  pub by : ℕ

abbrev pub axes : List ℕ → List ℕ → List ℕ → List Axis
axes (a ∷ starts) (b ∷ stops) (c ∷ steps) = record { lo = a; hi = b; by = c } ∷ axes starts stops steps
axes starts stops steps = []

abbrev pub axes_of : Slab → List Axis
axes_of s = axes s.start s.stop s.step

-- the axis selects this number
abbrev pub is_on : Axis → ℕ → Bool
is_on x n = nat_le x.lo n && nat_lt n x.hi && nat_eq ((n - x.lo) % x.by) 0

-- each axis selects its coordinate
abbrev pub is_at : List Axis → List ℕ → Bool
is_at [] [] = true
is_at [] (n ∷ ns) = false
is_at (x ∷ xs) [] = false
is_at (x ∷ xs) (n ∷ ns) = is_on x n && is_at xs ns

-- the selected cells of a grid of these dims, in row-major order
abbrev pub selected : Slab → List ℕ → List (List ℕ)
selected s dims = filter (is_at (axes_of s)) (coordinates dims)

-- each axis ends within its dim
abbrev pub FitsIn : Slab → List ℕ → Type 0
FitsIn s dims = AllZip (λ x n. x.hi ≤ n) (axes_of s) dims

-- how many numbers an axis selects
abbrev pub on_count : Axis → ℕ
on_count x = length (filter (is_on x) (run_from 0 x.hi))

-- the same, by a division
abbrev pub extent : Axis → ℕ
extent x = if nat_lt x.lo x.hi then (x.hi - x.lo - 1) / x.by + 1 else 0

abbrev pub extents : Slab → List ℕ
extents s = map extent (axes_of s)

-- `k` steps from the start of each axis
abbrev pub point : List ℕ → List Axis → List ℕ
point (k ∷ ks) (x ∷ xs) = (x.lo + k * x.by) ∷ point ks xs
point ks xs = []

-- ---- what a slab is

abbrev pub IsAxis : Axis → Type 0
IsAxis x = (x.lo ≤ x.hi) × (x.hi ≤ MAX_EXTENT) × (1 ≤ x.by)

abbrev pub AreAxes : List Axis → Type 0
AreAxes [] = Unit {0}
AreAxes (x ∷ xs) = IsAxis x × AreAxes xs

-- each list has a number for each axis
pub record IsRanked (s : Slab) : Type 0 where
  pub few_axes : length s.start ≤ MAX_RANK
  pub stops : length s.stop ≡ length s.start
  pub steps : length s.step ≡ length s.start

-- a selection that texts or lists can spell
pub record IsSlab (s : Slab) : Type 0 where
  pub ranked : IsRanked s
  pub sound : AreAxes (axes_of s)
  pub room : room_of (extents s) ≤ MAX_SELECTED

-- ---- the cells of a shape

-- a selection lies in a shape; of one without a cell it selects none
abbrev pub SlabIn : Slab → Shape → Type 0
SlabIn s Null = cell_count (extents s) ≡ 0
SlabIn s Scalar = FitsIn s []
SlabIn s (Simple dims limits) = FitsIn s dims

-- the cells of a shape that a selection selects, in row-major order
abbrev pub slab_cells : Slab → Shape → List (List ℕ)
slab_cells s Null = []
slab_cells s Scalar = selected s []
slab_cells s (Simple dims limits) = selected s dims

-- no cell has two linear indices
abbrev pub AreApart : List (List ℕ) → Type 0
AreApart cells = (p q : ℕ) → p < length cells → q < length cells → slice_index_or cells p [] ≡ slice_index_or cells q [] → p ≡ q

-- two axes between the same numbers, with the same step, or with steps that lead past the end
abbrev pub IsAlike : Axis → Axis → Type 0
IsAlike x y = (x.lo ≡ y.lo) × (x.hi ≡ y.hi) × ((x.by ≡ y.by) ⊎ ((x.hi - x.lo ≤ x.by) × (x.hi - x.lo ≤ y.by)))

-- ---- one cell by its number

-- the selected cell number `k`, from 0: its digits are the steps from the starts
abbrev pub cell_at : Slab → ℕ → List ℕ
cell_at s k = point (digits_by (extents s) k) (axes_of s)
