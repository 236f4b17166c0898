-- Sums of trees.
use Rattle.std.proofs.Common.{◌≡◌, ℕ, ◌+◌, ◌*◌, ◌%◌, ◌^◌, ◌<◌, ◌≤◌, List, [], ◌∷◌, map, length, take, get_or, refl, sym, ap, ◌∙◌, arith}
use Rattle.std.specs.List.{range_with_len, sum_by}
use Rattle.std.proofs.lemmas.List.{take_all}
use Rattle.std.proofs.lemmas.List.Sums.{sum_by-cons, sum_by_more}
use Rattle.serde_json.specs.Data.{Data}
use Rattle.serde_json.specs.View.{view}
use Rattle.serde_json.specs.declared.value.Value.{Value}
use Rattle.hdf_values.proofs.ElementLemmas.{list_of-items_of}
use Rattle.samples.specs.Values.Samples.{element, row_sum, slab_sum}
use Rattle.samples.specs.Sums.{number_in, row_in, total_in}
use Rattle.samples.specs.Trees.{read_row, read_tree, whole}

-- ---- sums over other lists

pub sum_by-map : {A B : Type 0} (f : B → ℕ) (g : A → B) (xs : List A) → sum_by f (map g xs) ≡ sum_by (λ x. f (g x)) xs
sum_by-map f g [] = refl
sum_by-map f g (x ∷ xs) = sum_by-cons f (g x) (map g xs) ∙ ap (λ s. f (g x) + s) (sum_by-map f g xs) ∙ sym (sum_by-cons (λ y. f (g y)) x xs)

sum_by_same : {A : Type 0} (f g : A → ℕ) (xs : List A) → ((x : A) → f x ≡ g x) → sum_by f xs ≡ sum_by g xs
sum_by_same f g [] h = refl
sum_by_same f g (x ∷ xs) h =
    let first = h x in
    let rest = sum_by_same f g xs h in
    sum_by-cons f x xs ∙ (ap (λ s. s + sum_by f xs) first ∙ ap (λ s. g x + s) rest) ∙ sym (sum_by-cons g x xs)

-- ---- the tree of a slab

row_is_sum : (n many row : ℕ) → row_in (read_row n many row) ≡ sum_by (λ j. element n (row * 1000 + 7 * j)) (range_with_len 0 many)
unfolding row_in read_row
row_is_sum n many row =
    let f = λ (j : ℕ). whole (element n (row * 1000 + 7 * j)) in
    ap (sum_by number_in) (list_of-items_of (map f (range_with_len 0 many))) ∙ sum_by-map number_in f (range_with_len 0 many)

total_is_sum : (n a rows columns : ℕ) → total_in (read_tree n a rows columns) ≡ sum_by (λ row. row_in (read_row n columns row)) (range_with_len a rows)
unfolding total_in read_tree
total_is_sum n a rows columns =
    ap (sum_by row_in) (list_of-items_of (map (read_row n columns) (range_with_len a rows))) ∙ sum_by-map row_in (read_row n columns) (range_with_len a rows)

rows_sum : (n a rows : ℕ) → total_in (read_tree n a rows 143) ≡ sum_by (row_sum n) (range_with_len a rows)
unfolding row_sum
rows_sum n a rows = total_is_sum n a rows 143 ∙ sum_by_same (λ row. row_in (read_row n 143 row)) (row_sum n) (range_with_len a rows) (λ row. row_is_sum n 143 row)

pub slab_is_sum : (n a : ℕ) → total_in (read_tree n a 100 143) % 2 ^ 64 ≡ slab_sum n a
unfolding slab_sum
slab_is_sum n a = ap (λ s. s % 2 ^ 64) (rows_sum n a 100)

-- ---- a loop over the members of a tree

-- one member more, modulo 2^64
pub sum_more : (f : Data → ℕ) (vs : List Value) (v : Value) (i sum next : ℕ) → i < length vs → v ≡ get_or vs i v → sum ≡ sum_by (λ w. f (view w)) (take i vs) % 2 ^ 64 → next % 2 ^ 64 ≡ f (view v) % 2 ^ 64
    → (sum + next) % 2 ^ 64 ≡ sum_by (λ w. f (view w)) (take (i + 1) vs) % 2 ^ 64
sum_more f vs v i sum next h is so_far more =
    let whole = sum_by_more (λ w. f (view w)) vs i v h in
    let this : f (view v) ≡ f (view (get_or vs i v)) = ap (λ w. f (view w)) is in
    omega (arith, whole, this, so_far, more)

-- all members
pub sum_all : (f : Data → ℕ) (vs : List Value) (ds : List Data) (i sum : ℕ) → length vs ≤ i → map view vs ≡ ds → sum ≡ sum_by (λ w. f (view w)) (take i vs) % 2 ^ 64 → sum ≡ sum_by f ds % 2 ^ 64
sum_all f vs ds i sum h is so_far =
    let all : sum_by (λ w. f (view w)) (take i vs) ≡ sum_by f ds = ap (sum_by (λ w. f (view w))) (take_all i vs h) ∙ sym (sum_by-map f view vs) ∙ ap (sum_by f) is in
    so_far ∙ ap (λ s. s % 2 ^ 64) all
