-- Trees that loops make of the elements.
use Rattle.std.proofs.Common.{◌≡◌, ℕ, zero, suc, ◌+◌, ◌*◌, ◌≤◌, List, [], ◌∷◌, ◌++◌, map, sym, ap, ◌∙◌, arith}
use Rattle.std.specs.List.{range_with_len}
use Rattle.std.proofs.lemmas.List.{map-append}
use Rattle.std.proofs.lemmas.List.FromFn.{map-range_with_len_more}
use Rattle.serde_json.specs.Data.{Data, depth, items_depth}
use Rattle.serde_json.specs.View.{items_of, view}
use Rattle.serde_json.specs.declared.value.Value.{Value}
use Rattle.samples.specs.Values.Samples.{element, state}
use Rattle.samples.specs.Trees.{dataset_tree, document_tree, listed, run_tree, value_tree, whole}

-- ---- so many members were made

abbrev pub AreMade : (ℕ → Data) → ℕ → List Value → Type 0
AreMade f many vs = map view vs ≡ map f (range_with_len 0 many)

pub made_more : (f : ℕ → Data) (many : ℕ) (vs now : List Value) (v : Value) → AreMade f many vs → now ≡ vs ++ v ∷ [] → view v ≡ f many → AreMade f (many + 1) now
made_more f many vs now v made pushed is =
    ap (map view) pushed ∙ map-append view vs (v ∷ []) ∙ ap (λ ds. ds ++ view v ∷ []) made ∙ ap (λ d. map f (range_with_len 0 many) ++ d ∷ []) is
    ∙ sym (map-range_with_len_more f 0 many many (omega arith))

-- ---- a run

-- the elements from the linear index k on were made, and the others are to come
pub record AreNext (n k many : ℕ) (elements : ℕ) (vs : List Value) : Type 0 where
  pub left : elements ≡ state n (k + many)
  pub made : AreMade (λ i. whole (element n (k + i))) many vs

pub made_none : (n k elements : ℕ) (vs : List Value) → elements ≡ state n k → vs ≡ [] → AreNext n k 0 elements vs
made_none n k elements vs is none =
    let same : k ≡ k + 0 = omega arith in
    record { left = is ∙ ap (state n) same; made = ap (map view) none }

pub run_made : (n k many elements : ℕ) (vs : List Value) → AreNext n k many elements vs → listed (map view vs) ≡ run_tree n many k
unfolding run_tree
run_made n k many elements vs h = ap listed h.made

-- ---- the rows

pub record AreRows (n columns many : ℕ) (elements : ℕ) (vs : List Value) : Type 0 where
  pub left : elements ≡ state n (many * columns)
  pub made : AreMade (λ row. run_tree n columns (row * columns)) many vs

pub rows_made : (n columns many elements : ℕ) (vs : List Value) → AreRows n columns many elements vs → listed (map view vs) ≡ value_tree n many columns
unfolding value_tree
rows_made n columns many elements vs h = ap listed h.made

-- ---- how deep they nest

made_depth : (f : ℕ → Data) (a many most : ℕ) → ((k : ℕ) → depth (f k) ≤ most) → items_depth (items_of (map f (range_with_len a many))) ≤ most
made_depth f a zero most h = omega arith
made_depth f a (suc many) most h = omega (arith, h a, made_depth f (a + 1) many most h)

run_depth : (n many k : ℕ) → depth (run_tree n many k) ≤ 1
unfolding run_tree
run_depth n many k = omega (arith, made_depth (λ i. whole (element n (k + i))) 0 many 0 (λ i. omega arith))

value_depth : (n rows columns : ℕ) → depth (value_tree n rows columns) ≤ 2
unfolding value_tree
value_depth n rows columns = omega (arith, made_depth (λ row. run_tree n columns (row * columns)) 0 rows 1 (λ row. run_depth n columns (row * columns)))

pub document_depth : (n rows columns : ℕ) → depth (document_tree (dataset_tree (value_tree n rows columns))) ≤ 127
unfolding document_tree
document_depth n rows columns = omega (arith, value_depth n rows columns)
