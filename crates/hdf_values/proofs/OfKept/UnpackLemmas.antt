-- Numbers of one type as those of another, nested by extents.
use Rattle.std.proofs.Common.{◌≡◌, ℕ, zero, suc, ◌*◌, ◌/◌, ◌≤◌, ℤ, Bool, true, false, not, ◌&&◌, eqb, bytes_eq, List, [], ◌∷◌, ◌++◌, length, map, take, drop, Some, Ok, refl, sym, ap, subst, ◌∙◌, arith, append-nil, append_assoc, mul_assoc, mul_comm}
use Rattle.std.specs.List.{AllByRecursion, flat_map}
use Rattle.std.specs.Option.{option_map_or}
use Rattle.std.proofs.lemmas.Bool.{and_parts, eqb-true, false≢true}
use Rattle.std.proofs.Math.Bool.{beq}
use Rattle.std.proofs.lemmas.Slice.Eq.{bytes_eq-Decides}
use Rattle.std.proofs.Math.Nat.{div-add-mod', mul-div_cancel_left}
use Rattle.std.proofs.lemmas.List.{length-drop, length-take-le, map-append, take-append-drop, take_all}
use Rattle.std.proofs.lemmas.List.Folds.{flat_map-map}
use Rattle.serde_json.specs.Data.{Data}
use Rattle.json_trees.specs.Trees.{list_of, list_in}
use Rattle.hdf_types.specs.declared.IntType.{IntType}
use Rattle.hdf_types.specs.Elems.{Elem, int}
use Rattle.hdf_types.specs.Reading.{int_size, size_of}
use Rattle.hdf_types.specs.Types.{IsSoundType}
use Rattle.shapes.specs.RowMajor.{cell_count}
use Rattle.hdf_values.specs.Elements.{Fits, bytes_of, decoded}
use Rattle.hdf_values.specs.Integers.{in_range, int_bytes, integer_in}
use Rattle.hdf_values.specs.KeptValues.{Converts}
use Rattle.hdf_values.specs.Nested.{AreEncoded, FitsNested, elements, nested_decoded, nested_from, pieces}
use Rattle.hdf_values.proofs.ElementLemmas.{list_of-items_of}
use Rattle.hdf_values.proofs.IntegerLemmas.{range_told}
use Rattle.hdf_values.proofs.NestedLemmas.{all_map, decoded_read, nested_fits, nested_read}
use Rattle.hdf_values.proofs.PieceLemmas.{all_parts, pieces-append, some_size}

-- ---- pieces of pieces

pieces_long : (n k : ℕ) (bs : List ℕ) → length bs ≡ n * k → AllByRecursion (λ b. length b ≡ k) (pieces n k bs)
pieces_long zero k bs e = tt
pieces_long (suc n) k bs e = (length-take-le k bs (omega arith), pieces_long n k (drop k bs) (omega (arith, length-drop k bs)))

pieces_joined : (n c k : ℕ) (bs : List ℕ) → length bs ≡ n * (c * k) → flat_map (pieces c k) (pieces n (c * k) bs) ≡ pieces (n * c) k bs
pieces_joined zero c k bs e =
    let none : 0 * c ≡ 0 = omega arith in
    rw none refl
pieces_joined (suc n) c k bs e =
    let long : length (take (c * k) bs) ≡ c * k = length-take-le (c * k) bs (omega arith) in
    let rest : length (drop (c * k) bs) ≡ n * (c * k) = omega (arith, length-drop (c * k) bs) in
    ap (λ ps. pieces c k (take (c * k) bs) ++ ps) (pieces_joined n c k (drop (c * k) bs) rest)
    ∙ sym (pieces-append c (n * c) (suc n * c) k (take (c * k) bs) (drop (c * k) bs) (omega arith) long)
    ∙ ap (pieces (suc n * c) k) (take-append-drop (c * k) bs)

-- ---- the elements of a tree are those that its bytes stand for

flat_same : {A B : Type 0} (F : A → Type 0) (f g : A → List B) → ((x : A) → F x → f x ≡ g x) → (xs : List A) → AllByRecursion F xs
    → flat_map f xs ≡ flat_map g xs
flat_same F f g each [] h = refl
flat_same F f g each (x ∷ xs) h = rw (each x h.0, flat_same F f g each xs h.1)

map_flat : {A B C : Type 0} (f : B → C) (g : A → List B) (xs : List A) → flat_map (λ x. map f (g x)) xs ≡ map f (flat_map g xs)
map_flat f g [] = refl
map_flat f g (x ∷ xs) = ap (λ ys. map f (g x) ++ ys) (map_flat f g xs) ∙ sym (map-append f (g x) (flat_map g xs))

elements_decoded : (e : Elem) (dims bs : List ℕ) → length bs ≡ cell_count dims * size_of e
    → elements dims (nested_decoded e dims bs) ≡ map (decoded e) (pieces (cell_count dims) (size_of e) bs)
elements_decoded e [] bs h = ap (λ b. decoded e b ∷ []) (sym (take_all (size_of e) bs (omega arith)))
elements_decoded e (n ∷ ns) bs h =
    let c = cell_count ns in
    let k = size_of e in
    let dec = nested_decoded e ns in
    let ps = pieces n (c * k) bs in
    let whole : length bs ≡ n * (cell_count ns * size_of e) = h ∙ mul_assoc n c k in
    ap (flat_map (elements ns)) (list_of-items_of (map dec ps))
    ∙ flat_map-map (elements ns) dec ps
    ∙ flat_same (λ b. length b ≡ c * k) (λ b. elements ns (dec b)) (λ b. map (decoded e) (pieces c k b))
    (λ b q. elements_decoded e ns b q) ps (pieces_long n (c * k) bs whole)
    ∙ map_flat (decoded e) (pieces c k) ps
    ∙ ap (map (decoded e)) (pieces_joined n c k bs whole)

-- ---- a tree that nests for one type, and whose elements are values of another

refit_each : (F G P : Data → Type 0) (g : Data → List Data) → ((d : Data) → F d → AllByRecursion P (g d) → G d) → (ds : List Data)
    → AllByRecursion F ds → AllByRecursion P (flat_map g ds) → AllByRecursion G ds
refit_each F G P g each [] h k = tt
refit_each F G P g each (d ∷ ds) h k =
    let parts = all_parts P (g d) (flat_map g ds) k in
    (each d h.0 parts.0, refit_each F G P g each ds h.1 parts.1)

refit : (e f : Elem) (dims : List ℕ) (d : Data) → FitsNested f dims d → AllByRecursion (Fits e) (elements dims d) → FitsNested e dims d
refit e f [] d h k = k.0
refit e f (n ∷ ns) d h k =
    let is_list : list_in d ≡ Some (list_of h.0) = ap list_in h.1 in
    let all : AllByRecursion (Fits e) (flat_map (elements ns) (list_of h.0)) = rw is_list at k in
    (h.0, h.1, h.2, refit_each (FitsNested f ns) (FitsNested e ns) (Fits e) (elements ns) (λ x q r. refit e f ns x q r) (list_of h.0) h.3 all)

-- ---- numbers one after another

pub room_for : (n k len : ℕ) → n ≡ len / k → n * k ≤ len
room_for n k len e = subst (λ (m : ℕ). m * k ≤ len) (sym e) (omega (arith, div-add-mod' len k))

pub converts_none : (from to : IntType) (bs old : List ℕ) → Converts from to 0 bs old old
converts_none from to bs old = record { fits = tt; bytes = sym (append-nil old) }

-- one number, and those behind it
pub converts_more : (from to : IntType) (n : ℕ) (front left old mid new : List ℕ) → front ≡ take (int_size from.bits) left
    → Fits (int to) (decoded (int from) front) → mid ≡ old ++ bytes_of (int to) (decoded (int from) front)
    → Converts from to n (drop (int_size from.bits) left) mid new → Converts from to (suc n) left old new
converts_more from to n front left old mid new is fits added h =
    let dec : List ℕ → List ℕ = λ b. bytes_of (int to) (decoded (int from) b) in
    let behind = flat_map (λ b. bytes_of (int to) (decoded (int from) b)) (pieces n (int_size from.bits) (drop (int_size from.bits) left)) in
    record {
      fits = (subst (λ b. Fits (int to) (decoded (int from) b)) is fits, h.fits);
      bytes = h.bytes ∙ ap (λ xs. xs ++ behind) added ∙ append_assoc old (dec front) behind ∙ ap (λ b. old ++ (dec b ++ behind)) is;
    }

-- numbers that are all in range are the elements of their tree
pub numbers_read : (from to : IntType) (dims bs new : List ℕ) → IsSoundType (int from) → AreEncoded (int from) (cell_count dims) bs
    → Converts from to (length bs / int_size from.bits) bs [] new
    → nested_from (int to) dims 0 (nested_decoded (int from) dims bs) ≡ Ok new
numbers_read from to dims bs new s h k =
    let d = nested_decoded (int from) dims bs in
    let size = int_size from.bits in
    let many : length bs / int_size from.bits ≡ cell_count dims =
    ap (λ n. n / size) (h.whole ∙ mul_comm (cell_count dims) size) ∙ mul-div_cancel_left (cell_count dims) (some_size (int from) s.formed) in
    let all = subst (λ n. Converts from to n bs [] new) many k in
    let ps = pieces (cell_count dims) size bs in
    let them = elements_decoded (int from) dims bs h.whole in
    let fit = subst (AllByRecursion (Fits (int to))) (sym them)
    (all_map (λ b. Fits (int to) (decoded (int from) b)) (Fits (int to)) (decoded (int from)) (λ b q. q) ps all.fits) in
    nested_read (int to) dims 0 d (refit (int to) (int from) dims d (nested_fits (int from) dims bs s h).0 fit)
    ∙ ap (λ x. Ok x) (ap (flat_map (bytes_of (int to))) them ∙ flat_map-map (bytes_of (int to)) (decoded (int from)) ps ∙ sym all.bytes)

-- a number that is in range is one of the type, and its bytes were appended
pub number_put : (t : IntType) (d : Data) (y z : ℤ) (old new : List ℕ) → in_range t y ≡ true → y ≡ z → integer_in d ≡ Some z
    → new ≡ old ++ int_bytes t y → Fits (int t) d × (new ≡ old ++ bytes_of (int t) d)
number_put t d y z old new h same whole added =
    let value : integer_in d ≡ Some y = whole ∙ ap Some (sym same) in
    ((y, value, range_told t y h), added ∙ ap (λ o. old ++ option_map_or (int_bytes t) o []) (sym value))

-- ---- packed numbers, as the code tells them

truth : (b : Bool) → false ≡ not b → b ≡ true
truth true h = refl
truth false h = absurd (false≢true h)

pub same_extents : (xs ys : List ℕ) → false ≡ not (bytes_eq xs ys) → xs ≡ ys
same_extents xs ys h = (bytes_eq-Decides xs ys).0 (truth (bytes_eq xs ys) h)

same_bool : (a b : Bool) → beq a b ≡ true → a ≡ b
same_bool true true h = refl
same_bool true false h = absurd (false≢true h)
same_bool false true h = absurd (false≢true h)
same_bool false false h = refl

made : Bool → ℕ → Bool → IntType
made signed bits big = record { signed = signed; bits = bits; big = big }

pub same_type : (a b : IntType) → true ≡ (beq a.signed b.signed && (eqb a.bits b.bits && beq a.big b.big)) → a ≡ b
unfolding made
same_type a b h =
    let parts = and_parts (beq a.signed b.signed) (eqb a.bits b.bits && beq a.big b.big) (sym h) in
    let later = and_parts (eqb a.bits b.bits) (beq a.big b.big) parts.1 in
    ap (λ s. made s a.bits a.big) (same_bool a.signed b.signed parts.0)
    ∙ ap (λ n. made b.signed n a.big) (eqb-true a.bits b.bits later.0) ∙ ap (made b.signed b.bits) (same_bool a.big b.big later.1)

-- elements of one type as those of the same
pub same_read : (e f : Elem) (dims extents bs : List ℕ) (d : Data) → e ≡ f → extents ≡ dims → nested_decoded f extents bs ≡ d → IsSoundType f
    → AreEncoded f (cell_count extents) bs → nested_from e dims 0 d ≡ Ok bs
same_read e f dims extents bs d is same shown s h =
    ap (λ x. nested_from x dims 0 d) is ∙ ap (λ ns. nested_from f ns 0 d) (sym same) ∙ ap (nested_from f extents 0) (sym shown) ∙ decoded_read f extents bs s h

-- and as those of another
pub other_read : (e f : Elem) (to from : IntType) (dims extents bs xs new : List ℕ) (d : Data) → e ≡ int to → f ≡ int from → extents ≡ dims → xs ≡ bs
    → nested_decoded f extents bs ≡ d → IsSoundType f
    → AreEncoded f (cell_count extents) bs → Converts from to (length xs / int_size from.bits) xs [] new → nested_from e dims 0 d ≡ Ok new
other_read e f to from dims extents bs xs new d is packed same held shown s h k =
    let tree : d ≡ nested_decoded (int from) extents bs = sym shown ∙ ap (λ x. nested_decoded x extents bs) packed in
    let whole = subst (λ ys. Converts from to (length ys / int_size from.bits) ys [] new) held k in
    ap (λ x. nested_from x dims 0 d) is ∙ ap (λ ns. nested_from (int to) ns 0 d) (sym same) ∙ ap (nested_from (int to) extents 0) tree
    ∙ numbers_read from to extents bs new (subst IsSoundType packed s) (subst (λ x. AreEncoded x (cell_count extents) bs) packed h) whole
