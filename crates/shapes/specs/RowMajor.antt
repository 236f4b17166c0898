-- The cells of a grid in row-major order: the last axis is the fastest.
use Rattle.std.specs.Prelude.{ℕ, zero, suc, ◌+◌, ◌*◌, ◌/◌, ◌%◌, ◌<◌, ◌&&◌, Bool, true, false, nat_lt, max, List, [], ◌∷◌, map, length, slice_index, slice_index_or}
use Rattle.std.specs.List.{flat_map}
use Rattle.std.specs.List.{AllZip}

-- how many cells a grid of these dims has
abbrev pub cell_count : List ℕ → ℕ
cell_count [] = 1
cell_count (n ∷ ns) = n * cell_count ns

-- the same, with a dim of 0 counted as 1
abbrev pub room_of : List ℕ → ℕ
room_of [] = 1
room_of (n ∷ ns) = max n 1 * room_of ns

-- coordinates inside the dims
abbrev pub IsInside : List ℕ → List ℕ → Type 0
IsInside at dims = AllZip (λ x n. x < n) at dims

-- whether they are
abbrev pub is_inside : List ℕ → List ℕ → Bool
is_inside [] [] = true
is_inside [] (n ∷ ns) = false
is_inside (x ∷ xs) [] = false
is_inside (x ∷ xs) (n ∷ ns) = nat_lt x n && is_inside xs ns

-- the linear index of coordinates (row-major)
abbrev pub linear_index : List ℕ → List ℕ → ℕ
linear_index [] ns = 0
linear_index (x ∷ xs) [] = 0
linear_index (x ∷ xs) (n ∷ ns) = x * cell_count ns + linear_index xs ns

-- all choices of one number from each axis, the last axis the fastest
abbrev pub grid : List (List ℕ) → List (List ℕ)
grid [] = [] ∷ []
grid (axis ∷ axes) = flat_map (λ x. map (λ rest. x ∷ rest) (grid axes)) axis

-- how many numbers each axis has
abbrev pub extents_of : List (List ℕ) → List ℕ
extents_of axes = map length axes

-- the numbers at these indices of the axes
abbrev pub picked : List ℕ → List (List ℕ) → List ℕ
picked [] axes = []
picked (k ∷ ks) [] = []
picked (k ∷ ks) (axis ∷ axes) = slice_index axis k ∷ picked ks axes

-- the numbers from `start` on, `n` of them
abbrev pub run_from : ℕ → ℕ → List ℕ
run_from start zero = []
run_from start (suc n) = start ∷ run_from (suc start) n

-- all coordinates inside the dims, in row-major order
abbrev pub coordinates : List ℕ → List (List ℕ)
coordinates dims = grid (map (λ n. run_from 0 n) dims)

-- the coordinates of a linear index
abbrev pub coords_of : List ℕ → ℕ → List ℕ
coords_of dims k = slice_index_or (coordinates dims) k []

-- the digits of a number, of which each counts as many cells as the axes after it have
abbrev pub digits_by : List ℕ → ℕ → List ℕ
digits_by [] k = []
digits_by (n ∷ ns) k = k / cell_count ns ∷ digits_by ns (k % cell_count ns)
