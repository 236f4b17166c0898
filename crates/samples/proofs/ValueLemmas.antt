-- The dataset's value nests by its extents, and which element stands where in it.
use Rattle.std.proofs.Common.{◌≡◌, ℕ, zero, suc, ◌+◌, ◌*◌, ◌^◌, ◌<◌, List, [], ◌∷◌, map, length, Some, option_and_then, pos, refl, sym, ap, subst, ◌∙◌, arith}
use Rattle.std.specs.List.{AllByRecursion, range_with_len}
use Rattle.std.proofs.lemmas.Int.{ints}
use Rattle.std.proofs.lemmas.List.FromFn.{length-map-range_with_len}
use Rattle.serde_json.specs.Data.{Data}
use Rattle.serde_json.specs.Find.{get_item}
use Rattle.serde_json.specs.View.{items_of}
use Rattle.hdf_values.specs.Elements.{Fits}
use Rattle.hdf_values.specs.Nested.{FitsNested, tree_at}
use Rattle.hdf_values.proofs.ElementLemmas.{list_of-items_of}
use Rattle.samples.specs.Values.Samples.{element, next_state, state}
use Rattle.samples.specs.Trees.{i32, listed, run_tree, value_tree, whole}

-- ---- the elements

state_small : (n k : ℕ) → n < 2 ^ 64 → state n k < 2 ^ 64
unfolding state next_state
state_small n zero h = h
state_small n (suc k) h = omega arith

pub element_small : (n k : ℕ) → n < 2 ^ 64 → element n k < 2 ^ 31
unfolding element
element_small n k h = omega (arith, state_small n k h)

pub number_fits : (k : ℕ) → k < 2 ^ 31 → Fits i32 (whole k)
number_fits k h = (pos k, refl, record { not_below = omega (arith, ints); not_above = omega (arith, ints, h) })

-- ---- a list made of the numbers from one on

all_made : (F : Data → Type 0) (f : ℕ → Data) (a many : ℕ) → ((k : ℕ) → F (f k)) → AllByRecursion F (map f (range_with_len a many))
all_made F f a zero h = tt
all_made F f a (suc many) h = (h a, all_made F f (a + 1) many h)

made_fits : (f : ℕ → Data) (many : ℕ) (ns : List ℕ) → ((k : ℕ) → FitsNested i32 ns (f k)) → FitsNested i32 (many ∷ ns) (listed (map f (range_with_len 0 many)))
made_fits f many ns h =
    let same = list_of-items_of (map f (range_with_len 0 many)) in
    (items_of (map f (range_with_len 0 many)), refl, ap length same ∙ length-map-range_with_len f 0 many, subst (AllByRecursion (FitsNested i32 ns)) (sym same) (all_made (FitsNested i32 ns) f 0 many h))

item_made : (f : ℕ → Data) (a many i : ℕ) → i < many → get_item i (items_of (map f (range_with_len a many))) ≡ Some (f (a + i))
item_made f a zero i h = absurd (omega arith)
item_made f a (suc many) zero h =
    let same : a ≡ a + 0 = omega arith in
    ap (λ (k : ℕ). Some (f k)) same
item_made f a (suc many) (suc i) h =
    let same : a + 1 + i ≡ a + suc i = omega arith in
    item_made f (a + 1) many i (omega arith) ∙ ap (λ (k : ℕ). Some (f k)) same

item_from_0 : (f : ℕ → Data) (many i : ℕ) → i < many → get_item i (items_of (map f (range_with_len 0 many))) ≡ Some (f i)
item_from_0 f many i h =
    let same : 0 + i ≡ i = omega arith in
    item_made f 0 many i h ∙ ap (λ (k : ℕ). Some (f k)) same

-- ---- the value

run_fits : (n many k : ℕ) → n < 2 ^ 64 → FitsNested i32 (many ∷ []) (run_tree n many k)
unfolding run_tree
run_fits n many k h = made_fits (λ i. whole (element n (k + i))) many [] (λ i. number_fits (element n (k + i)) (element_small n (k + i) h))

pub value_fits : (n rows columns : ℕ) → n < 2 ^ 64 → FitsNested i32 (rows ∷ columns ∷ []) (value_tree n rows columns)
unfolding value_tree
value_fits n rows columns h = made_fits (λ row. run_tree n columns (row * columns)) rows (columns ∷ []) (λ row. run_fits n columns (row * columns) h)

run_at : (n many k i : ℕ) → i < many → tree_at (i ∷ []) (run_tree n many k) ≡ Some (whole (element n (k + i)))
unfolding run_tree
run_at n many k i h = ap (option_and_then (tree_at [])) (item_from_0 (λ j. whole (element n (k + j))) many i h)

pub value_at_cell : (n rows columns row column : ℕ) → row < rows → column < columns
    → tree_at (row ∷ column ∷ []) (value_tree n rows columns) ≡ Some (whole (element n (row * columns + column)))
unfolding value_tree
value_at_cell n rows columns row column h k =
    ap (option_and_then (tree_at (column ∷ []))) (item_from_0 (λ r. run_tree n columns (r * columns)) rows row h) ∙ run_at n columns (row * columns) column k
