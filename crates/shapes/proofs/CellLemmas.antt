-- The cells of a shape by their linear indices, and the order of both.
use Rattle.std.proofs.Common.{◌≡◌, ℕ, ◌+◌, ◌*◌, ◌/◌, ◌%◌, ◌^◌, ◌<◌, ◌≤◌, All, List, [], ◌∷◌, length, refl, sym, ap, subst, ◌∙◌, arith}
use Rattle.std.specs.declared.cmp.Ordering.{Ordering}
use Rattle.std.specs.declared.cmp.Ordering.TheVariants.{Less, Equal, Greater}
use Rattle.std.specs.Ordering.{MatchOrdering, nat_cmp, ordering_then}
use Rattle.std.specs.Cmp.{ranks, nat_cmp_is, nat_cmp_total, tied_itself}
use Rattle.std.specs.Cmp.Lexicographic.{slice_cmp}
use Rattle.std.proofs.lemmas.List.{get_or_default}
use Rattle.std.proofs.lemmas.Nat.{mul-le, div-add-mod', div_below, mod_below}
use Rattle.json_trees.proofs.TreeLemmas.{length-AllZip}
use Rattle.containers.specs.ShortLists.Order.{list_order}
use Rattle.shapes.specs.declared.Shape.{Shape}
use Rattle.shapes.specs.declared.Shape.TheVariants.{Null, Scalar, Simple}
use Rattle.shapes.specs.RowMajor.{cell_count, IsInside, linear_index, coords_of, digits_by}
use Rattle.shapes.specs.Shapes.{IsSound, LiesIn, cells_of, cell_of, count_of, dims_of}
use Rattle.shapes.proofs.RowMajorLemmas.{cell_count-room, index_below, some_factor}
use Rattle.shapes.proofs.GridLemmas.{length-coordinates, coordinates-index}

-- ---- each linear index below the count is that of some coordinates

pub digits_in : (dims : List ℕ) (k : ℕ) → k < cell_count dims → IsInside (digits_by dims k) dims × (linear_index (digits_by dims k) dims ≡ k)
digits_in [] k h = (tt, omega arith)
digits_in (n ∷ ns) k h =
    let more : 0 < cell_count ns = (some_factor n (cell_count ns) k h).1 in
    let rest = digits_in ns (k % cell_count ns) (mod_below k (cell_count ns) more) in
    let low : k / cell_count ns < n = div_below k (cell_count ns) n more h in
    ((low, rest.0), rw rest.1 (div-add-mod' k (cell_count ns)))

pub digits-coords : (dims : List ℕ) (k : ℕ) → k < cell_count dims → digits_by dims k ≡ coords_of dims k
digits-coords dims k h =
    let lies = digits_in dims k h in
    sym (ap (λ j. coords_of dims j) (sym lies.1) ∙ coordinates-index (digits_by dims k) dims lies.0)

index_found : (dims : List ℕ) (k : ℕ) → k < cell_count dims → IsInside (coords_of dims k) dims × (linear_index (coords_of dims k) dims ≡ k)
index_found dims k h =
    let P = λ (at : List ℕ). IsInside at dims × (linear_index at dims ≡ k) in
    subst P (digits-coords dims k h) (digits_in dims k h)

pub coords_inside : (dims : List ℕ) (k : ℕ) → k < cell_count dims → IsInside (coords_of dims k) dims
coords_inside dims k h = (index_found dims k h).0

pub index-coords : (dims : List ℕ) (k : ℕ) → k < cell_count dims → linear_index (coords_of dims k) dims ≡ k
index-coords dims k h = (index_found dims k h).1

pub cells_length : (s : Shape) → length (cells_of s) ≡ count_of s
cells_length Null = refl
cells_length Scalar = length-coordinates []
cells_length (Simple dims limits) = length-coordinates dims

pub count_small : (s : Shape) → IsSound s → count_of s ≤ 2 ^ 48
count_small Null h = omega arith
count_small Scalar h = omega arith
count_small (Simple dims limits) h = omega (arith, cell_count-room dims, h.fitting.room)

pub cell_inside : (s : Shape) (k : ℕ) → k < count_of s → LiesIn (cell_of s k) s
cell_inside Null k h = absurd (omega arith)
cell_inside Scalar k h = coords_inside [] k h
cell_inside (Simple dims limits) k h = coords_inside dims k h

pub cells_inside : (s : Shape) → All (λ at. LiesIn at s) (cells_of s)
cells_inside s = λ k d h.
    let P = λ (at : List ℕ). LiesIn at s in
    subst P (get_or_default (cells_of s) k [] d h) (cell_inside s k (omega (arith, cells_length s, h)))

pub index-cell : (s : Shape) (k : ℕ) → k < count_of s → linear_index (cell_of s k) (dims_of s) ≡ k
index-cell Null k h = absurd (omega arith)
index-cell Scalar k h = index-coords [] k h
index-cell (Simple dims limits) k h = index-coords dims k h

pub cell-index : (s : Shape) (at : List ℕ) → LiesIn at s → cell_of s (linear_index at (dims_of s)) ≡ at
cell-index Null at h = absurd h
cell-index Scalar at h = coordinates-index at [] h
cell-index (Simple dims limits) at h = coordinates-index at dims h

pub index_counted : (s : Shape) (at : List ℕ) → LiesIn at s → linear_index at (dims_of s) < count_of s
index_counted Null at h = absurd h
index_counted Scalar at h = index_below at [] h
index_counted (Simple dims limits) at h = index_below at dims h

pub cell_once : (s : Shape) (j k : ℕ) → j < count_of s → k < count_of s → cell_of s j ≡ cell_of s k → j ≡ k
cell_once s j k h l e = sym (index-cell s j h) ∙ ap (λ at. linear_index at (dims_of s)) e ∙ index-cell s k l

-- ---- the order of linear indices

-- a number of the slower axis decides; where it is the same, the rest does
row_order : (x y p q c : ℕ) (r s : Ordering) → p < c → q < c → MatchOrdering r (x < y) (x ≡ y) (y < x) → MatchOrdering s (p < q) (p ≡ q) (q < p)
    → MatchOrdering (ordering_then r s) (x * c + p < y * c + q) (x * c + p ≡ y * c + q) (y * c + q < x * c + p)
row_order x y p q c Less s h k low rest =
    let rows : (x + 1) * c ≤ y * c = mul-le (x + 1) c y c (omega arith) (omega arith) in
    omega (arith, h, rows)
row_order x y p q c Greater s h k low rest =
    let rows : (y + 1) * c ≤ x * c = mul-le (y + 1) c x c (omega arith) (omega arith) in
    omega (arith, k, rows)
row_order x y p q c Equal Less h k same rest =
    let rows : x * c ≡ y * c = ap (λ n. n * c) same in
    omega (arith, rows, rest)
row_order x y p q c Equal Equal h k same rest = ap (λ n. n * c + p) same ∙ ap (λ n. y * c + n) rest
row_order x y p q c Equal Greater h k same rest =
    let rows : x * c ≡ y * c = ap (λ n. n * c) same in
    omega (arith, rows, rest)

index_order : (xs ys ns : List ℕ) → IsInside xs ns → IsInside ys ns → MatchOrdering (slice_cmp nat_cmp xs ys) (linear_index xs ns < linear_index ys ns) (linear_index xs ns ≡ linear_index ys ns) (linear_index ys ns < linear_index xs ns)
index_order [] [] [] h k = refl
index_order [] (y ∷ ys) [] h k = absurd k
index_order (x ∷ xs) ys [] h k = absurd h
index_order [] ys (n ∷ ns) h k = absurd h
index_order (x ∷ xs) [] (n ∷ ns) h k = absurd k
index_order (x ∷ xs) (y ∷ ys) (n ∷ ns) h k =
    row_order x y (linear_index xs ns) (linear_index ys ns) (cell_count ns) (nat_cmp x y) (slice_cmp nat_cmp xs ys) (index_below xs ns h.1) (index_below ys ns k.1) (ranks x y) (index_order xs ys ns h.1 k.1)

grid_order : (xs ys ns : List ℕ) → IsInside xs ns → IsInside ys ns → nat_cmp (linear_index xs ns) (linear_index ys ns) ≡ list_order xs ys
grid_order xs ys ns h k =
    let low = λ (x n : ℕ). x < n in
    let long : length xs ≡ length ys = sym (length-AllZip low xs ns h) ∙ length-AllZip low ys ns k in
    let tied = ap (nat_cmp (length xs)) (sym long) ∙ tied_itself nat_cmp_total (length xs) in
    sym (ap (λ r. ordering_then r (slice_cmp nat_cmp xs ys)) tied ∙ nat_cmp_is (linear_index xs ns) (linear_index ys ns) (slice_cmp nat_cmp xs ys) (index_order xs ys ns h k))

pub cell_order : (s : Shape) (a b : List ℕ) → LiesIn a s → LiesIn b s → nat_cmp (linear_index a (dims_of s)) (linear_index b (dims_of s)) ≡ list_order a b
cell_order Null a b h k = absurd h
cell_order Scalar a b h k = grid_order a b [] h k
cell_order (Simple dims limits) a b h k = grid_order a b dims h k
