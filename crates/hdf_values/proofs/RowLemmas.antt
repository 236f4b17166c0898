-- The elements stand in row-major order.
use Rattle.std.proofs.Common.{◌≡◌, ℕ, zero, suc, ◌+◌, ◌-◌, ◌*◌, ◌<◌, ◌≤◌, List, [], ◌∷◌, length, map, take, drop, get_or, Some, refl, sym, ap, ◌∙◌, arith, mul_assoc}
use Rattle.std.specs.List.{AllByRecursion, flat_map}
use Rattle.std.proofs.lemmas.List.{length-take-le, length-drop, length-map, take-append-drop, take-take, take_all, drop-drop, drop-take}
use Rattle.std.proofs.lemmas.Nat.{mul-le}
use Rattle.std.proofs.lemmas.List.Concat.{get_or-flat_map}
use Rattle.std.proofs.Math.Seq.{drop-append-add}
use Rattle.serde_json.specs.Data.{Data, Items, no_items, item, null}
use Rattle.serde_json.specs.Find.{get_item, at}
use Rattle.json_trees.specs.Trees.{list_of, list_in}
use Rattle.hdf_types.specs.Elems.{Elem}
use Rattle.hdf_types.specs.Reading.{size_of}
use Rattle.hdf_types.specs.Types.{IsSoundType}
use Rattle.serde_json.specs.View.{items_of}
use Rattle.shapes.specs.declared.Shape.{Shape}
use Rattle.shapes.specs.declared.Shape.TheVariants.{Null, Scalar, Simple}
use Rattle.shapes.specs.Shapes.{LiesIn, count_of, dims_of}
use Rattle.shapes.specs.RowMajor.{cell_count, IsInside, linear_index}
use Rattle.shapes.proofs.RowMajorLemmas.{index_below}
use Rattle.hdf_values.specs.Elements.{Fits, bytes_of, decoded}
use Rattle.hdf_values.specs.Nested.{FitsNested, elements, nested_bytes, nested_decoded, tree_at, pieces, piece_at, AreEncoded}
use Rattle.hdf_values.specs.Shaped.{value_tree}
use Rattle.hdf_values.proofs.ElementLemmas.{length-bytes_of, list_of-items_of}
use Rattle.hdf_values.proofs.PieceLemmas.{all_parts, length-pieces, piece-first, piece-later}
use Rattle.hdf_values.proofs.NestedLemmas.{length-flat, first_piece, elements_fit, length-elements}
use Rattle.json_trees.proofs.ListLemmas.{all_at}

pub item_at : (items : Items) (i : ℕ) → i < length (list_of items) → get_item i items ≡ Some (get_or (list_of items) i null)
item_at no_items i h = absurd (omega arith)
item_at (item d ds) zero h = refl
item_at (item d ds) (suc i) h = item_at ds i (omega arith)

-- the element at a linear index is the tree at its coordinates
pub in_rows : (e : Elem) (dims coords : List ℕ) (d : Data) → FitsNested e dims d → IsInside coords dims → tree_at coords d ≡ Some (get_or (elements dims d) (linear_index coords dims) null)
in_rows e [] [] d h k = refl
in_rows e [] (x ∷ xs) d h k = absurd k
in_rows e (n ∷ ns) [] d h k = absurd k
in_rows e (n ∷ ns) (x ∷ xs) d h k =
    let ds = list_of h.0 in
    let y = get_or ds x null in
    let c = cell_count ns in
    let is_list : list_in d ≡ Some (list_of h.0) = ap list_in h.1 in
    let within : x < length (list_of h.0) = omega (arith, h.2, k.0) in
    let fits = all_at (FitsNested e ns) ds x null within h.3 in
    let found : at x d ≡ Some (get_or (list_of h.0) x null) = ap (at x) h.1 ∙ item_at h.0 x within in
    let low : linear_index xs ns < length (elements ns (get_or (list_of h.0) x null)) = rw (length-elements e ns y fits) (index_below xs ns k.1) in
    let front = all_parts (FitsNested e ns) (take x ds) (drop x ds) (rw (take-append-drop x ds) h.3) in
    let before : length (flat_map (elements ns) (take x (list_of h.0))) ≡ x * cell_count ns =
    length-flat (FitsNested e ns) (elements ns) c (λ z q. length-elements e ns z q) (take x ds) front.0 ∙ ap (λ m. m * c) (length-take-le x ds (omega arith)) in
    let here = rw before at (get_or-flat_map (elements ns) ds x (linear_index xs ns) null null within low) in
    rw (found, is_list) (in_rows e ns xs y fits k.1 ∙ ap (λ z. Some z) (sym here))

pub piece-flat_map : {A : Type 0} (F : A → Type 0) (g : A → List ℕ) (k : ℕ) → ((x : A) → F x → length (g x) ≡ k) → (xs : List A) (i : ℕ) (d : A) → i < length xs → AllByRecursion F xs → take k (drop (i * k) (flat_map g xs)) ≡ g (get_or xs i d)
piece-flat_map F g k each [] i d h all = absurd (omega arith)
piece-flat_map F g k each (x ∷ xs) zero d h all =
    let none : zero * k ≡ 0 = omega arith in
    rw none (first_piece k (g x) (flat_map g xs) (each x all.0))
piece-flat_map F g k each (x ∷ xs) (suc i) d h all =
    let more : suc i * k ≡ length (g x) + i * k = omega (arith, each x all.0) in
    rw (more, drop-append-add (g x) (flat_map g xs) (i * k)) (piece-flat_map F g k each xs i d (omega arith) all.1)

-- its bytes are those at the linear index
pub row_bytes : (e : Elem) (dims coords : List ℕ) (d : Data) → IsSoundType e → FitsNested e dims d → IsInside coords dims
    → (x : Data) × (tree_at coords d ≡ Some x) × Fits e x × (take (size_of e) (drop (linear_index coords dims * size_of e) (nested_bytes e dims d)) ≡ bytes_of e x)
row_bytes e dims coords d s h k =
    let ds = elements dims d in
    let p = linear_index coords dims in
    let fits = elements_fit e dims d h in
    let within : linear_index coords dims < length (elements dims d) = rw (length-elements e dims d h) (index_below coords dims k) in
    (get_or ds p null, in_rows e dims coords d h k, all_at (Fits e) ds p null within fits, piece-flat_map (Fits e) (bytes_of e) (size_of e) (λ x q. length-bytes_of e x s.formed q) ds p null within fits)

-- ---- in the tree of bytes

-- a piece of a piece
piece_within : (s c x p : ℕ) (bs : List ℕ) → p < c → piece_at s p (piece_at (c * s) x bs) ≡ piece_at s (x * c + p) bs
piece_within s c x p bs h =
    let rest = drop (x * (c * s)) bs in
    let some : (p + 1) * s ≤ c * s = mul-le (p + 1) s c s (omega arith) (omega arith) in
    let far : p * s + (c * s - p * s) ≡ c * s = omega (arith, some) in
    let at : x * (c * s) + p * s ≡ (x * c + p) * s = omega (arith, mul_assoc x c s) in
    ap (λ k. take s (drop (p * s) (take k rest))) (sym far)
    ∙ ap (take s) (drop-take (p * s) (c * s - p * s) rest)
    ∙ take-take s (c * s - p * s) (drop (p * s) rest) (omega (arith, some))
    ∙ ap (take s) (drop-drop (p * s) (x * (c * s)) bs)
    ∙ ap (λ k. take s (drop k bs)) at

pub tree_of_piece : (dec : List ℕ → Data) (n k x : ℕ) (bs : List ℕ) → x < n → get_or (map dec (pieces n k bs)) x null ≡ dec (piece_at k x bs)
tree_of_piece dec zero k x bs h = absurd (omega arith)
tree_of_piece dec (suc n) k zero bs h = ap dec (sym (piece-first k bs))
tree_of_piece dec (suc n) k (suc x) bs h = tree_of_piece dec n k x (drop k bs) (omega arith) ∙ ap dec (sym (piece-later k x bs))

pub element_found : (e : Elem) (dims coords bs : List ℕ) → length bs ≡ cell_count dims * size_of e → IsInside coords dims
    → tree_at coords (nested_decoded e dims bs) ≡ Some (decoded e (piece_at (size_of e) (linear_index coords dims) bs))
element_found e [] [] bs h k = ap (λ xs. Some (decoded e xs)) (sym (piece-first (size_of e) bs ∙ take_all (size_of e) bs (omega arith)))
element_found e [] (x ∷ xs) bs h k = absurd k
element_found e (n ∷ ns) [] bs h k = absurd k
element_found e (n ∷ ns) (x ∷ xs) bs h k =
    let c = cell_count ns in
    let s = size_of e in
    let dec = nested_decoded e ns in
    let trees = map dec (pieces n (c * s) bs) in
    let items = items_of trees in
    let many : length (list_of (items_of (map (nested_decoded e ns) (pieces n (cell_count ns * size_of e) bs)))) ≡ n =
    ap length (list_of-items_of trees) ∙ length-map (pieces n (c * s) bs) dec ∙ length-pieces n (c * s) bs in
    let member = item_at items x (omega (arith, many, k.0)) ∙ ap (λ ds. Some (get_or ds x null)) (list_of-items_of trees) ∙ ap (λ d. Some d) (tree_of_piece dec n (c * s) x bs k.0) in
    let most : (x + 1) * (c * s) ≤ n * (c * s) = mul-le (x + 1) (c * s) n (c * s) (omega (arith, k.0)) (omega arith) in
    let whole : length bs ≡ n * (cell_count ns * size_of e) = h ∙ mul_assoc n c s in
    let size = length-take-le (c * s) (drop (x * (c * s)) bs) (omega (arith, most, whole, length-drop (x * (c * s)) bs)) in
    rw member (element_found e ns xs (piece_at (c * s) x bs) size k.1 ∙ ap (λ b. Some (decoded e b)) (piece_within s c x (linear_index xs ns) bs (index_below xs ns k.1)))

pub value_found : (e : Elem) (s : Shape) (at bs : List ℕ) → AreEncoded e (count_of s) bs → LiesIn at s
    → tree_at at (value_tree e s bs) ≡ Some (decoded e (piece_at (size_of e) (linear_index at (dims_of s)) bs))
value_found e Null at bs h k = absurd k
value_found e Scalar at bs h k = element_found e [] at bs h.whole k
value_found e (Simple dims limits) at bs h k = element_found e dims at bs h.whole k
