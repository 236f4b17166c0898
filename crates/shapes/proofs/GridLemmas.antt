-- The list of all coordinates, and which of them has a linear index.
use Rattle.std.proofs.Common.{◌≡◌, ℕ, zero, suc, ◌+◌, ◌*◌, ◌<◌, List, [], ◌∷◌, ◌++◌, map, length, get_or, refl, sym, ap, ◌∙◌, arith, zero-mul}
use Rattle.std.specs.List.{flat_map}
use Rattle.std.proofs.lemmas.List.{length-append, length-map, get_or-append-add, get_or_append_left, get_or-map}
use Rattle.shapes.specs.RowMajor.{cell_count, IsInside, linear_index, grid, extents_of, picked, run_from, coordinates}
use Rattle.shapes.proofs.RowMajorLemmas.{index_below}

length-rows : (axis : List ℕ) (rest : List (List ℕ)) → length (flat_map (λ x. map (λ r. x ∷ r) rest) axis) ≡ length axis * length rest
length-rows [] rest = sym (zero-mul (length rest))
length-rows (x ∷ axis) rest =
    length-append (map (λ r. x ∷ r) rest) (flat_map (λ x. map (λ r. x ∷ r) rest) axis) ∙ rw (length-map rest (λ r. x ∷ r), length-rows axis rest) (omega arith)

pub length-grid : (axes : List (List ℕ)) → length (grid axes) ≡ cell_count (extents_of axes)
length-grid [] = refl
length-grid (axis ∷ axes) = length-rows axis (grid axes) ∙ ap (λ n. length axis * n) (length-grid axes)

row_at : (axis : List ℕ) (rest : List (List ℕ)) (k j : ℕ) → k < length axis → j < length rest → get_or (flat_map (λ x. map (λ r. x ∷ r) rest) axis) (k * length rest + j) [] ≡ get_or axis k 0 ∷ get_or rest j []
row_at [] rest k j h l = absurd (omega arith)
row_at (x ∷ axis) rest zero j h l =
    let row = map (λ r. x ∷ r) rest in
    let rows = flat_map (λ x. map (λ r. x ∷ r) rest) axis in
    let first : 0 * length rest + j ≡ j = omega arith in
    let within : j < length row = rw (length-map rest (λ r. x ∷ r)) l in
    ap (λ n. get_or (row ++ rows) n []) first ∙ get_or_append_left row rows [] j within ∙ get_or-map (λ r. x ∷ r) rest j [] [] l
row_at (x ∷ axis) rest (suc k) j h l =
    let row = map (λ r. x ∷ r) rest in
    let rows = flat_map (λ x. map (λ r. x ∷ r) rest) axis in
    let past : suc k * length rest + j ≡ length row + (k * length rest + j) = rw (length-map rest (λ r. x ∷ r)) (omega arith) in
    ap (λ n. get_or (row ++ rows) n []) past ∙ get_or-append-add row rows (k * length rest + j) [] ∙ row_at axis rest k j (omega arith) l

pub grid-index : (ks : List ℕ) (axes : List (List ℕ)) → IsInside ks (extents_of axes) → get_or (grid axes) (linear_index ks (extents_of axes)) [] ≡ picked ks axes
grid-index [] [] h = refl
grid-index [] (axis ∷ axes) h = absurd h
grid-index (k ∷ ks) [] h = absurd h
grid-index (k ∷ ks) (axis ∷ axes) h =
    let inner : linear_index ks (extents_of axes) < length (grid axes) = rw (length-grid axes) (index_below ks (extents_of axes) h.1) in
    ap (λ n. get_or (grid (axis ∷ axes)) (k * n + linear_index ks (extents_of axes)) []) (sym (length-grid axes)) ∙ row_at axis (grid axes) k (linear_index ks (extents_of axes)) h.0 inner ∙ ap (λ r. get_or axis k 0 ∷ r) (grid-index ks axes h.1)

length-run : (start n : ℕ) → length (run_from start n) ≡ n
length-run start zero = refl
length-run start (suc n) = ap suc (length-run (suc start) n)

get_or-run : (start n k : ℕ) → k < n → get_or (run_from start n) k 0 ≡ start + k
get_or-run start zero k h = absurd (omega arith)
get_or-run start (suc n) zero h = omega arith
get_or-run start (suc n) (suc k) h = get_or-run (suc start) n k (omega arith) ∙ omega arith

extents-runs : (dims : List ℕ) → extents_of (map (λ n. run_from 0 n) dims) ≡ dims
extents-runs [] = refl
extents-runs (n ∷ ns) = ap (λ m. m ∷ extents_of (map (λ n. run_from 0 n) ns)) (length-run 0 n) ∙ ap (λ ms. n ∷ ms) (extents-runs ns)

picked-runs : (at dims : List ℕ) → IsInside at dims → picked at (map (λ n. run_from 0 n) dims) ≡ at
picked-runs [] [] h = refl
picked-runs [] (n ∷ ns) h = refl
picked-runs (x ∷ xs) [] h = absurd h
picked-runs (x ∷ xs) (n ∷ ns) h = ap (λ y. y ∷ picked xs (map (λ n. run_from 0 n) ns)) (get_or-run 0 n x h.0 ∙ omega arith) ∙ ap (λ ys. x ∷ ys) (picked-runs xs ns h.1)

-- as many coordinates as cells, and at each linear index those of that index
pub length-coordinates : (dims : List ℕ) → length (coordinates dims) ≡ cell_count dims
length-coordinates dims = length-grid (map (λ n. run_from 0 n) dims) ∙ ap cell_count (extents-runs dims)

pub coordinates-index : (at dims : List ℕ) → IsInside at dims → get_or (coordinates dims) (linear_index at dims) [] ≡ at
coordinates-index at dims h =
    let axes = map (λ n. run_from 0 n) dims in
    let inside : IsInside at (extents_of axes) = rw (extents-runs dims) h in
    ap (λ ns. get_or (grid axes) (linear_index at ns) []) (sym (extents-runs dims)) ∙ grid-index at axes inside ∙ picked-runs at dims h
