-- Lists of elements and their bytes.
use Rattle.std.proofs.Common.{◌≡◌, ℕ, zero, suc, ◌+◌, ◌*◌, List, [], ◌∷◌, ◌++◌, length, map, take, drop, Option, Some, Result, Ok, refl, sym, ap, ◌∙◌, arith, mul_assoc, eq-eqb}
use Rattle.std.specs.List.{AllByRecursion, flat_map}
use Rattle.std.proofs.lemmas.Grind.{flat_map-append}
use Rattle.std.proofs.lemmas.List.{append-nil, length-append, length-drop, length-map, take-append-drop}
use Rattle.std.proofs.lemmas.List.Folds.{flat_map-map}
use Rattle.std.proofs.Math.Seq.{take-append_seam, drop-append_seam}
use Rattle.serde_json.specs.Data.{Data, array}
use Rattle.serde_json.specs.View.{items_of}
use Rattle.json_trees.specs.Trees.{list_of, list_in}
use Rattle.hdf_types.specs.Elems.{Elem}
use Rattle.hdf_types.specs.Reading.{size_of}
use Rattle.hdf_types.specs.Types.{IsSoundType}
use Rattle.shapes.specs.RowMajor.{cell_count}
use Rattle.hdf_values.specs.declared.faults.ValueFault.{ValueFault}
use Rattle.hdf_values.specs.Elements.{Fits, bytes_of, decoded, IsEncoded}
use Rattle.hdf_values.specs.Nested.{FitsNested, elements, nested_bytes, nested_normal, nested_decoded, each_nested, counted, nested_from, pieces, AreEncoded}
use Rattle.hdf_values.proofs.ElementLemmas.{list_of-items_of, encoded-fits, length-bytes_of, decoded-bytes_of}
use Rattle.hdf_values.proofs.PieceLemmas.{length-pieces, each_encoded, one_encoded, decoded_fits}
use Rattle.json_trees.proofs.ListLemmas.{all_append}

-- ---- lists of lists

flat_flat : {A B C : Type 0} (f : B → List C) (g : A → List B) (xs : List A) → flat_map f (flat_map g xs) ≡ flat_map (λ x. flat_map f (g x)) xs
flat_flat f g [] = refl
flat_flat f g (x ∷ xs) = flat_map-append f (g x) (flat_map g xs) ∙ ap (λ ys. flat_map f (g x) ++ ys) (flat_flat f g xs)

pub length-flat : {A B : Type 0} (F : A → Type 0) (g : A → List B) (k : ℕ) → ((x : A) → F x → length (g x) ≡ k) → (xs : List A) → AllByRecursion F xs → length (flat_map g xs) ≡ length xs * k
length-flat F g k each [] h = omega arith
length-flat F g k each (x ∷ xs) h = length-append (g x) (flat_map g xs) ∙ omega (arith, each x h.0, length-flat F g k each xs h.1)

all_flat : {A B : Type 0} (F : A → Type 0) (G : B → Type 0) (g : A → List B) → ((x : A) → F x → AllByRecursion G (g x)) → (xs : List A) → AllByRecursion F xs → AllByRecursion G (flat_map g xs)
all_flat F G g each [] h = tt
all_flat F G g each (x ∷ xs) h = all_append G (g x) (flat_map g xs) (each x h.0) (all_flat F G g each xs h.1)

pub all_map : {A B : Type 0} (F : A → Type 0) (G : B → Type 0) (g : A → B) → ((x : A) → F x → G (g x)) → (xs : List A) → AllByRecursion F xs → AllByRecursion G (map g xs)
all_map F G g each [] h = tt
all_map F G g each (x ∷ xs) h = (each x h.0, all_map F G g each xs h.1)

pub map_each : {A B C : Type 0} (F : A → Type 0) (f : B → C) (g : A → B) (h : A → C) → ((x : A) → F x → f (g x) ≡ h x) → (xs : List A) → AllByRecursion F xs → map f (map g xs) ≡ map h xs
map_each F f g h each [] k = refl
map_each F f g h each (x ∷ xs) k = rw (each x k.0, map_each F f g h each xs k.1)

-- ---- pieces

pub first_piece : (k : ℕ) (xs ys : List ℕ) → length xs ≡ k → take k (xs ++ ys) ≡ xs
first_piece k xs ys e = rw (← e) (take-append_seam xs ys)

after_piece : (k : ℕ) (xs ys : List ℕ) → length xs ≡ k → drop k (xs ++ ys) ≡ ys
after_piece k xs ys e = rw (← e) (drop-append_seam xs ys)

pub pieces-flat : {A : Type 0} (F : A → Type 0) (g : A → List ℕ) (k : ℕ) → ((x : A) → F x → length (g x) ≡ k) → (xs : List A) → AllByRecursion F xs → pieces (length xs) k (flat_map g xs) ≡ map g xs
pieces-flat F g k each [] h = refl
pieces-flat F g k each (x ∷ xs) h =
    let first = first_piece k (g x) (flat_map g xs) (each x h.0) in
    let after = after_piece k (g x) (flat_map g xs) (each x h.0) in
    rw (first, after, pieces-flat F g k each xs h.1)

-- pieces that stay as they are make the whole
rejoined : (F : List ℕ → Type 0) (f : List ℕ → List ℕ) → ((xs : List ℕ) → F xs → f xs ≡ xs) → (n k : ℕ) (bs : List ℕ) → length bs ≡ n * k → AllByRecursion F (pieces n k bs) → flat_map f (pieces n k bs) ≡ bs
rejoined F f each zero k [] e h = refl
rejoined F f each zero k (b ∷ bs) e h = absurd (omega arith)
rejoined F f each (suc n) k bs e h =
    let rest : length (drop k bs) ≡ n * k = omega (arith, length-drop k bs) in
    rw (each (take k bs) h.0, rejoined F f each n k (drop k bs) rest h.1) (take-append-drop k bs)

-- ---- a tree that nests is read as its bytes

pub bytes_listed : (e : Elem) (n : ℕ) (ns : List ℕ) (d : Data) (ds : List Data) → list_in d ≡ Some ds → nested_bytes e (n ∷ ns) d ≡ flat_map (nested_bytes e ns) ds
bytes_listed e n ns d ds h = rw h (flat_flat (bytes_of e) (elements ns) ds)

counted_ok : (n p : ℕ) (read : List Data → Result (List ℕ) ValueFault) (o : Option (List Data)) (ds : List Data) (r : Result (List ℕ) ValueFault) → o ≡ Some ds → length ds ≡ n → read ds ≡ r → counted n p read o ≡ r
counted_ok n p read o ds r h e k = rw (h, eq-eqb (length ds) n e) k

each_ok : (read : ℕ → Data → Result (List ℕ) ValueFault) (F : Data → Type 0) (b : Data → List ℕ) → ((q : ℕ) (d : Data) → F d → read q d ≡ Ok (b d)) → (c p : ℕ) (ds : List Data) → AllByRecursion F ds → each_nested read c p ds ≡ Ok (flat_map b ds)
each_ok read F b each c p [] h = refl
each_ok read F b each c p (d ∷ ds) h = rw (each p d h.0, each_ok read F b each c (p + c) ds h.1)

pub nested_read : (e : Elem) (dims : List ℕ) (p : ℕ) (d : Data) → FitsNested e dims d → nested_from e dims p d ≡ Ok (nested_bytes e dims d)
nested_read e [] p d h = rw (encoded-fits e d h, append-nil (bytes_of e d))
nested_read e (n ∷ ns) p d h =
    let ds = list_of h.0 in
    let is_list : list_in d ≡ Some (list_of h.0) = ap list_in h.1 in
    let each = each_ok (nested_from e ns) (FitsNested e ns) (nested_bytes e ns) (λ q x k. nested_read e ns q x k) (cell_count ns) p ds h.3 in
    rw (bytes_listed e n ns d ds is_list) (counted_ok n p (each_nested (nested_from e ns) (cell_count ns) p) (list_in d) ds (Ok (flat_map (nested_bytes e ns) ds)) is_list h.2 each)

-- ---- its elements

pub elements_fit : (e : Elem) (dims : List ℕ) (d : Data) → FitsNested e dims d → AllByRecursion (Fits e) (elements dims d)
elements_fit e [] d h = (h, tt)
elements_fit e (n ∷ ns) d h =
    let is_list : list_in d ≡ Some (list_of h.0) = ap list_in h.1 in
    rw is_list (all_flat (FitsNested e ns) (Fits e) (elements ns) (λ x k. elements_fit e ns x k) (list_of h.0) h.3)

pub length-elements : (e : Elem) (dims : List ℕ) (d : Data) → FitsNested e dims d → length (elements dims d) ≡ cell_count dims
length-elements e [] d h = refl
length-elements e (n ∷ ns) d h =
    let is_list : list_in d ≡ Some (list_of h.0) = ap list_in h.1 in
    rw is_list (length-flat (FitsNested e ns) (elements ns) (cell_count ns) (λ x k. length-elements e ns x k) (list_of h.0) h.3 ∙ ap (λ m. m * cell_count ns) h.2)

pub length-nested_bytes : (e : Elem) (dims : List ℕ) (d : Data) → IsSoundType e → FitsNested e dims d → length (nested_bytes e dims d) ≡ cell_count dims * size_of e
length-nested_bytes e dims d s h =
    length-flat (Fits e) (bytes_of e) (size_of e) (λ x k. length-bytes_of e x s.formed k) (elements dims d) (elements_fit e dims d h)
    ∙ ap (λ m. m * size_of e) (length-elements e dims d h)

-- what a tree that nests is written as are the bytes of so many elements
pub are_encoded : (e : Elem) (dims : List ℕ) (d : Data) → IsSoundType e → FitsNested e dims d → AreEncoded e (cell_count dims) (nested_bytes e dims d)
are_encoded e dims d s h =
    let ds = elements dims d in
    let fit = elements_fit e dims d h in
    let split : pieces (cell_count dims) (size_of e) (nested_bytes e dims d) ≡ map (bytes_of e) (elements dims d) =
    ap (λ m. pieces m (size_of e) (nested_bytes e dims d)) (sym (length-elements e dims d h)) ∙ pieces-flat (Fits e) (bytes_of e) (size_of e) (λ x k. length-bytes_of e x s.formed k) ds fit in
    record {
      whole = length-nested_bytes e dims d s h;
      each = rw split (all_map (Fits e) (IsEncoded e) (bytes_of e) (λ x k. (x, k, refl)) ds fit);
    }

-- ---- its bytes stand for it

pub nested_back : (e : Elem) (dims : List ℕ) (d : Data) → IsSoundType e → FitsNested e dims d → nested_decoded e dims (nested_bytes e dims d) ≡ nested_normal e dims d
nested_back e [] d s h = rw (append-nil (bytes_of e d)) (decoded-bytes_of e d s.formed h)
nested_back e (n ∷ ns) d s h =
    let ds = list_of h.0 in
    let k = cell_count ns * size_of e in
    let is_list : list_in d ≡ Some (list_of h.0) = ap list_in h.1 in
    let split : pieces n k (nested_bytes e (n ∷ ns) d) ≡ map (nested_bytes e ns) (list_of h.0) =
    ap (pieces n k) (bytes_listed e n ns d ds is_list)
    ∙ ap (λ m. pieces m k (flat_map (nested_bytes e ns) ds)) (sym h.2)
    ∙ pieces-flat (FitsNested e ns) (nested_bytes e ns) k (λ x q. length-nested_bytes e ns x s q) ds h.3 in
    let each = map_each (FitsNested e ns) (nested_decoded e ns) (nested_bytes e ns) (nested_normal e ns) (λ x q. nested_back e ns x s q) ds h.3 in
    rw (split, each, is_list)

list_fits : (e : Elem) (n : ℕ) (ns : List ℕ) (ds : List Data) → length ds ≡ n → AllByRecursion (FitsNested e ns) ds → FitsNested e (n ∷ ns) (array (items_of ds))
list_fits e n ns ds q h = (items_of ds, refl, ap length (list_of-items_of ds) ∙ q, rw (list_of-items_of ds) h)

-- the tree that they stand for nests, and has these bytes
pub nested_fits : (e : Elem) (dims bs : List ℕ) → IsSoundType e → AreEncoded e (cell_count dims) bs → FitsNested e dims (nested_decoded e dims bs) × (nested_bytes e dims (nested_decoded e dims bs) ≡ bs)
nested_fits e [] bs s h =
    let fit = decoded_fits e bs s (one_encoded e bs h) in
    (fit.0, append-nil (bytes_of e (decoded e bs)) ∙ fit.1)
nested_fits e (n ∷ ns) bs s h =
    let c = cell_count ns in
    let k = c * size_of e in
    let ps = pieces n k bs in
    let dec = nested_decoded e ns in
    let parts = each_encoded e c n bs h in
    let fit = all_map (AreEncoded e c) (FitsNested e ns) dec (λ x q. (nested_fits e ns x s q).0) ps parts in
    let whole = rejoined (AreEncoded e c) (λ x. nested_bytes e ns (dec x)) (λ x q. (nested_fits e ns x s q).1) n k bs (h.whole ∙ mul_assoc n c (size_of e)) parts in (
      list_fits e n ns (map dec ps) (length-map ps dec ∙ length-pieces n k bs) fit,
      bytes_listed e n ns (array (items_of (map dec ps))) (map dec ps) (ap Some (list_of-items_of (map dec ps))) ∙ flat_map-map (nested_bytes e ns) dec ps ∙ whole,
    )

pub decoded_read : (e : Elem) (dims bs : List ℕ) → IsSoundType e → AreEncoded e (cell_count dims) bs → nested_from e dims 0 (nested_decoded e dims bs) ≡ Ok bs
decoded_read e dims bs s h =
    let fit = nested_fits e dims bs s h in
    nested_read e dims 0 (nested_decoded e dims bs) fit.0 ∙ ap (λ l. Ok l) fit.1
