-- Values are read again from the trees that their bytes stand for. No text need be UTF-8, since no test asks that.
use Rattle.std.proofs.Common.{◌≡◌, ℕ, zero, suc, ◌+◌, ◌*◌, ◌++◌, ℤ, if◌then◌else◌, List, [], ◌∷◌, length, map, take, drop, Option, Some, None, Result, Ok, Err, inl, inr, refl, sym, ap, subst, ◌∙◌, arith, eq-eqb, append_assoc}
use Rattle.std.specs.List.{AllByRecursion, flat_map}
use Rattle.std.specs.Option.{option_map_or}
use Rattle.std.proofs.lemmas.Bool.{cases_Bool}
use Rattle.std.proofs.lemmas.List.{append-nil, length-append, length-drop, length-map, take-append-drop, take_at, drop_at}
use Rattle.serde_json.specs.Data.{Data, null, boolean, number, string, array, object}
use Rattle.serde_json.specs.Find.{of_integer, as_str}
use Rattle.json_trees.specs.Trees.{list_in}
use Rattle.json_trees.specs.Faults.{◌>>=◌}
use Rattle.hdf_types.specs.declared.IntType.{IntType}
use Rattle.hdf_types.specs.declared.TextType.{TextType}
use Rattle.hdf_types.specs.Elems.{Elem, int, text, compound, FieldList, no_fields, field}
use Rattle.hdf_types.specs.Reading.{size_of, fields_size}
use Rattle.hdf_types.specs.Types.{IsFormed, AreFormed}
use Rattle.shapes.specs.RowMajor.{cell_count}
use Rattle.shapes.specs.Shapes.{count_of}
use Rattle.shapes.specs.declared.Shape.{Shape}
use Rattle.shapes.specs.declared.Shape.TheVariants.{Null, Scalar, Simple}
use Rattle.hdf_values.specs.declared.faults.Misfit.{Misfit}
use Rattle.hdf_values.specs.declared.faults.Misfit.TheVariants.{OutOfRange}
use Rattle.hdf_values.specs.declared.faults.ValueFault.{ValueFault}
use Rattle.hdf_values.specs.Integers.{integer_in, in_range, int_bytes}
use Rattle.hdf_values.specs.Texts.{fill, padded, text_misfit, without_end}
use Rattle.hdf_values.specs.Elements.{Fits, bytes_of, decoded, encoded, fields_decoded, fields_encoded, int_encoded, joined, listed_or, misfit_or, normal, text_encoded}
use Rattle.hdf_values.specs.Nested.{counted, each_nested, nested_decoded, nested_from, pieces, placed}
use Rattle.hdf_values.specs.Shaped.{null_from, value_from, value_tree}
use Rattle.hdf_values.proofs.IntegerLemmas.{range_told}
use Rattle.hdf_values.proofs.TextLemmas.{fits_kept, kept-padded, length-padded, padded_again, text_read, text_short, text_told}
use Rattle.hdf_values.proofs.ElementLemmas.{bytes_of-normal, decoded-bytes_of, encoded-fits, integer_in-number, length-bytes_of, list_of-items_of, normal_fits}
use Rattle.hdf_values.proofs.FirstLemmas.{counted_ok, placed_ok}
use Rattle.hdf_values.proofs.PieceLemmas.{length-pieces}

-- ---- elements

-- the bytes have the size of the type, and the tree that they stand for has them
pub record IsAgain (e : Elem) (bs : List ℕ) : Type 0 where
  pub whole : length bs ≡ size_of e
  pub again : encoded e (decoded e bs) ≡ Ok bs

ok_bytes : (xs bs : List ℕ) → ◌≡◌ {A = Result (List ℕ) Misfit} (Ok xs) (Ok bs) → xs ≡ bs
ok_bytes xs bs e = cc

pub fit_again : (e : Elem) (d : Data) → IsFormed e → Fits e d → IsAgain e (bytes_of e d)
fit_again e d w h = record {
  whole = length-bytes_of e d w h;
  again = ap (encoded e) (decoded-bytes_of e d w h) ∙ encoded-fits e (normal e d) (normal_fits e d h) ∙ ap Ok (bytes_of-normal e d h);
}

int_again : (t : IntType) (o : Option ℤ) (bs : List ℕ) → IsFormed (int t) → int_encoded t o ≡ Ok bs → IsAgain (int t) bs
int_again t None bs w e = absurd cc
int_again t (Some z) bs w e = elim (cases_Bool (in_range t z)) [
  | inl q ↦
      let is : int_bytes t z ≡ bs = ok_bytes (int_bytes t z) bs (sym (ap (λ b. if b then Ok (int_bytes t z) else Err OutOfRange) q) ∙ e) in
      let same : bytes_of (int t) (number (of_integer z)) ≡ int_bytes t z = ap (λ (o : Option ℤ). option_map_or (int_bytes t) o []) (integer_in-number z) in
      subst (IsAgain (int t)) (same ∙ is) (fit_again (int t) (number (of_integer z)) w (z, integer_in-number z, range_told t z q))
  | inr q ↦
      let wrong : Err OutOfRange ≡ Ok bs = sym (ap (λ b. if b then Ok (int_bytes t z) else Err OutOfRange) q) ∙ e in
      absurd cc
]

misfit_ok : (o : Option Misfit) (xs bs : List ℕ) → misfit_or o xs ≡ Ok bs → (o ≡ None) × (xs ≡ bs)
misfit_ok None xs bs e = (refl, ok_bytes xs bs e)
misfit_ok (Some m) xs bs e = absurd cc

text_again : (t : TextType) (o : Option (List ℕ)) (bs : List ℕ) → text_encoded t o ≡ Ok bs → IsAgain (text t) bs
text_again t None bs e = absurd cc
text_again t (Some s) bs e =
    let told = misfit_ok (text_misfit t s) (padded t s) bs e in
    let fits = text_told t s told.0 in
    let short = without_end (fill t.pad) s in
    subst (IsAgain (text t)) told.1 (record {
      whole = length-padded t s fits;
      again = ap (λ x. text_encoded t (Some x)) (kept-padded t s)
          ∙ ap (λ m. misfit_or m (padded t short)) (text_read t short (fits_kept t s fits))
          ∙ ap Ok (padded_again t s (text_short t s told.0));
    })

joined_ok : (a b : Result (List ℕ) Misfit) (bs : List ℕ) → joined a b ≡ Ok bs
    → (xs : List ℕ) × (ys : List ℕ) × (a ≡ Ok xs) × (b ≡ Ok ys) × (xs ++ ys ≡ bs)
joined_ok (Ok xs) (Ok ys) bs h = (xs, ys, refl, refl, ok_bytes (xs ++ ys) bs h)
joined_ok (Ok xs) (Err n) bs h = absurd cc
joined_ok (Err m) (Ok ys) bs h = absurd cc
joined_ok (Err m) (Err n) bs h = absurd cc

-- the same for the fields of a compound
record AreAgain (fs : FieldList) (bs : List ℕ) : Type 0 where
  pub whole : length bs ≡ fields_size fs
  pub again : fields_encoded fs (fields_decoded fs bs) ≡ Ok bs

field_more : (n : List ℕ) (e : Elem) (rest : FieldList) (xs ys : List ℕ) → IsAgain e xs → AreAgain rest ys
    → AreAgain (field n e rest) (xs ++ ys)
field_more n e rest xs ys one later =
    let front : take (size_of e) (xs ++ ys) ≡ xs = take_at xs ys (size_of e) one.whole in
    let back : drop (size_of e) (xs ++ ys) ≡ ys = drop_at xs ys (size_of e) one.whole in
    record {
      whole = omega (arith, length-append xs ys, one.whole, later.whole);
      again = ap (λ z. joined (encoded e (decoded e z)) (fields_encoded rest (fields_decoded rest (drop (size_of e) (xs ++ ys))))) front
          ∙ ap (λ z. joined (encoded e (decoded e xs)) (fields_encoded rest (fields_decoded rest z))) back
          ∙ ap (λ r. joined r (fields_encoded rest (fields_decoded rest ys))) one.again
          ∙ ap (joined (Ok xs)) later.again;
    }

compound_again : (fs : FieldList) (bs : List ℕ) → AreAgain fs bs → IsAgain (compound fs) bs
compound_again fs bs h = record { whole = h.whole; again = ap (fields_encoded fs) (list_of-items_of (fields_decoded fs bs)) ∙ h.again }

listed_again : (fs : FieldList) (o : Option (List Data)) (bs : List ℕ)
    → ((ds : List Data) (xs : List ℕ) → fields_encoded fs ds ≡ Ok xs → AreAgain fs xs)
    → listed_or (fields_encoded fs) o ≡ Ok bs → IsAgain (compound fs) bs
listed_again fs None bs each e = absurd cc
listed_again fs (Some ds) bs each e = compound_again fs bs (each ds bs e)

mutual
  pub element_again : (e : Elem) (d : Data) (bs : List ℕ) → IsFormed e → encoded e d ≡ Ok bs → IsAgain e bs
  element_again (int t) d bs w e = int_again t (integer_in d) bs w e
  element_again (text t) d bs w e = text_again t (as_str d) bs e
  element_again (compound fs) d bs w e = listed_again fs (list_in d) bs (λ ds xs k. fields_again fs ds xs w.3 k) e

  fields_again : (fs : FieldList) (ds : List Data) (bs : List ℕ) → AreFormed fs → fields_encoded fs ds ≡ Ok bs → AreAgain fs bs
  fields_again no_fields [] bs w e = subst (AreAgain no_fields) (ok_bytes [] bs e) (record { whole = refl; again = refl })
  fields_again no_fields (d ∷ ds) bs w e = absurd cc
  fields_again (field n e rest) [] bs w h = absurd cc
  fields_again (field n e rest) (d ∷ ds) bs w h =
      let parts = joined_ok (encoded e d) (fields_encoded rest ds) bs h in
      subst (AreAgain (field n e rest)) parts.4 (field_more n e rest parts.0 parts.1 (element_again e d parts.0 w.2 parts.2) (fields_again rest ds parts.1 w.3 parts.3))

-- ---- lists nested by extents

ok_all : (xs bs : List ℕ) → ◌≡◌ {A = Result (List ℕ) ValueFault} (Ok xs) (Ok bs) → xs ≡ bs
ok_all xs bs e = cc

abbrev pub AreNested : Elem → List ℕ → List ℕ → Type 0
AreNested e [] bs = IsAgain e bs
AreNested e (n ∷ ns) bs = (length bs ≡ n * (cell_count ns * size_of e)) × AllByRecursion (AreNested e ns) (pieces n (cell_count ns * size_of e) bs)

pub nested_length : (e : Elem) (dims bs : List ℕ) → AreNested e dims bs → length bs ≡ cell_count dims * size_of e
nested_length e [] bs h = omega (arith, h.whole)
nested_length e (n ∷ ns) bs h = omega (arith, h.0)

-- members one after another
each_more : (read : ℕ → Data → Result (List ℕ) ValueFault) (c p : ℕ) (d : Data) (ds : List Data) (xs ys : List ℕ) → read p d ≡ Ok xs
    → each_nested read c (p + c) ds ≡ Ok ys
    → each_nested read c p (d ∷ ds) ≡ Ok (xs ++ ys)
each_more read c p d ds xs ys one later = rw (one, later) refl

each_read : (read : ℕ → Data → Result (List ℕ) ValueFault) (tree : List ℕ → Data) (F : List ℕ → Type 0) (c k : ℕ)
    → ((q : ℕ) (bs : List ℕ) → F bs → read q (tree bs) ≡ Ok bs)
    → (n p : ℕ) (bs : List ℕ) → length bs ≡ n * k → AllByRecursion F (pieces n k bs)
    → each_nested read c p (map tree (pieces n k bs)) ≡ Ok bs
each_read read tree F c k each zero p [] e h = refl
each_read read tree F c k each zero p (b ∷ bs) e h = absurd (omega arith)
each_read read tree F c k each (suc n) p bs e h =
    let rest : length (drop k bs) ≡ n * k = omega (arith, length-drop k bs) in
    each_more read c p (tree (take k bs)) (map tree (pieces n k (drop k bs))) (take k bs) (drop k bs) (each p (take k bs) h.0) (each_read read tree F c k each n (p + c) (drop k bs) rest h.1)
    ∙ ap Ok (take-append-drop k bs)

counted_is : (n p : ℕ) (read : List Data → Result (List ℕ) ValueFault) (ds : List Data) → length ds ≡ n
    → counted n p read (Some ds) ≡ read ds
counted_is n p read ds e = rw (eq-eqb (length ds) n e) refl

pub nested_back : (e : Elem) (dims bs : List ℕ) (p : ℕ) → AreNested e dims bs → nested_from e dims p (nested_decoded e dims bs) ≡ Ok bs
nested_back e [] bs p h = ap (placed p) h.again
nested_back e (n ∷ ns) bs p h =
    let k = cell_count ns * size_of e in
    let ds = map (nested_decoded e ns) (pieces n k bs) in
    ap (counted n p (each_nested (nested_from e ns) (cell_count ns) p)) (ap Some (list_of-items_of ds))
    ∙ counted_is n p (each_nested (nested_from e ns) (cell_count ns) p) ds (length-map (pieces n k bs) (nested_decoded e ns) ∙ length-pieces n k bs)
    ∙ each_read (nested_from e ns) (nested_decoded e ns) (AreNested e ns) (cell_count ns) k (λ q xs k. nested_back e ns xs q k) n p bs h.0 h.1

each_parts : (r later : Result (List ℕ) ValueFault) (bs : List ℕ) → (r >>= λ xs. later >>= λ rest. Ok (xs ++ rest)) ≡ Ok bs
    → (xs : List ℕ) × (ys : List ℕ) × (r ≡ Ok xs) × (later ≡ Ok ys) × (xs ++ ys ≡ bs)
each_parts (Ok xs) (Ok ys) bs h = (xs, ys, refl, refl, ok_all (xs ++ ys) bs h)
each_parts (Ok xs) (Err g) bs h = absurd cc
each_parts (Err g) later bs h = absurd cc

pieces_more : (F : List ℕ → Type 0) (n k : ℕ) (xs ys : List ℕ) → length xs ≡ k → F xs
    → (length ys ≡ n * k) × AllByRecursion F (pieces n k ys)
    → (length (xs ++ ys) ≡ suc n * k) × AllByRecursion F (pieces (suc n) k (xs ++ ys))
pieces_more F n k xs ys size one later = (
  omega (arith, length-append xs ys, later.0),
  (subst F (sym (take_at xs ys k size)) one, subst (λ zs. AllByRecursion F (pieces n k zs)) (sym (drop_at xs ys k size)) later.1),
)

each_told : (read : ℕ → Data → Result (List ℕ) ValueFault) (F : List ℕ → Type 0) (c k : ℕ)
    → ((q : ℕ) (d : Data) (bs : List ℕ) → read q d ≡ Ok bs → F bs) → ((bs : List ℕ) → F bs → length bs ≡ k)
    → (p : ℕ) (ds : List Data) (bs : List ℕ) → each_nested read c p ds ≡ Ok bs
    → (length bs ≡ length ds * k) × AllByRecursion F (pieces (length ds) k bs)
each_told read F c k each size p [] bs e = (omega (arith, ap length (ok_all [] bs e)), tt)
each_told read F c k each size p (d ∷ ds) bs e =
    let parts = each_parts (read p d) (each_nested read c (p + c) ds) bs e in
    let one = each p d parts.0 parts.2 in
    subst (λ zs. (length zs ≡ suc (length ds) * k) × AllByRecursion F (pieces (suc (length ds)) k zs)) parts.4
    (pieces_more F (length ds) k parts.0 parts.1 (size parts.0 one) one (each_told read F c k each size (p + c) ds parts.1 parts.3))

pub nested_again : (e : Elem) (dims : List ℕ) (p : ℕ) (d : Data) (bs : List ℕ) → IsFormed e → nested_from e dims p d ≡ Ok bs
    → AreNested e dims bs
nested_again e [] p d bs w h = element_again e d bs w (placed_ok p (encoded e d) bs h)
nested_again e (n ∷ ns) p d bs w h =
    let c = cell_count ns in
    let read = counted_ok n p (each_nested (nested_from e ns) c p) (list_in d) bs h in
    let told = each_told (nested_from e ns) (AreNested e ns) c (c * size_of e) (λ q x xs k. nested_again e ns q x xs w k) (λ xs k. nested_length e ns xs k) p read.0 bs read.3 in
    subst (λ m. (length bs ≡ m * (c * size_of e)) × AllByRecursion (AreNested e ns) (pieces m (c * size_of e) bs)) read.2 told

-- ---- one element many times

abbrev pub repeated : ℕ → List ℕ → List ℕ
repeated zero b = []
repeated (suc n) b = b ++ repeated n b

repeated_length : (n : ℕ) (b : List ℕ) → length (repeated n b) ≡ n * length b
repeated_length zero b = omega arith
repeated_length (suc n) b = omega (arith, length-append b (repeated n b), repeated_length n b)

repeated_joined : (m n : ℕ) (b : List ℕ) → repeated (m + n) b ≡ repeated m b ++ repeated n b
repeated_joined zero n b = let same : 0 + n ≡ n = omega arith in ap (λ m. repeated m b) same
repeated_joined (suc m) n b =
    let more : suc m + n ≡ suc (m + n) = omega arith in
    ap (λ k. repeated k b) more ∙ ap (λ xs. b ++ xs) (repeated_joined m n b) ∙ sym (append_assoc b (repeated m b) (repeated n b))

pub repeated_flat : {A : Type 0} (b : List ℕ) (xs : List A) → flat_map (λ _. b) xs ≡ repeated (length xs) b
repeated_flat b [] = refl
repeated_flat b (x ∷ xs) = ap (λ bs. b ++ bs) (repeated_flat b xs)

rows_repeated : (F : List ℕ → Type 0) (b : List ℕ) (c k : ℕ) → length (repeated c b) ≡ k → F (repeated c b) → (n : ℕ)
    → (length (repeated (n * c) b) ≡ n * k) × AllByRecursion F (pieces n k (repeated (n * c) b))
rows_repeated F b c k size one zero =
    let none : 0 ≡ 0 * c = omega arith in
    subst (λ m. (length (repeated m b) ≡ 0 * k) × AllByRecursion F (pieces 0 k (repeated m b))) none (omega arith, tt)
rows_repeated F b c k size one (suc n) =
    let many : c + n * c ≡ suc n * c = omega arith in
    let split : repeated c b ++ repeated (n * c) b ≡ repeated (suc n * c) b = sym (repeated_joined c (n * c) b) ∙ ap (λ m. repeated m b) many in
    subst (λ bs. (length bs ≡ suc n * k) × AllByRecursion F (pieces (suc n) k bs)) split
    (pieces_more F n k (repeated c b) (repeated (n * c) b) size one (rows_repeated F b c k size one n))

pub repeated_nested : (e : Elem) (dims b : List ℕ) → IsAgain e b → AreNested e dims (repeated (cell_count dims) b)
repeated_nested e [] b h = subst (IsAgain e) (sym (append-nil b)) h
repeated_nested e (n ∷ ns) b h =
    let row = repeated_nested e ns b h in
    rows_repeated (AreNested e ns) b (cell_count ns) (cell_count ns * size_of e) (nested_length e ns (repeated (cell_count ns) b) row) row n

-- ---- values of a shape

-- the bytes have the size of so many elements, and the tree that they stand for has them
pub record IsValueAgain (e : Elem) (s : Shape) (bs : List ℕ) : Type 0 where
  pub whole : length bs ≡ count_of s * size_of e
  pub again : value_from e s (value_tree e s bs) ≡ Ok bs

scalar_again : (e : Elem) (bs : List ℕ) → IsAgain e bs → IsValueAgain e Scalar bs
scalar_again e bs h = record { whole = omega (arith, h.whole); again = ap (placed 0) h.again }

simple_again : (e : Elem) (dims limits bs : List ℕ) → AreNested e dims bs → IsValueAgain e (Simple dims limits) bs
simple_again e dims limits bs h = record { whole = nested_length e dims bs h; again = nested_back e dims bs 0 h }

null_again : (e : Elem) (d : Data) (bs : List ℕ) → null_from d ≡ Ok bs → IsValueAgain e Null bs
null_again e null bs h = subst (IsValueAgain e Null) (ok_all [] bs h) (record { whole = omega arith; again = refl })
null_again e (boolean b) bs h = absurd cc
null_again e (number n) bs h = absurd cc
null_again e (string s) bs h = absurd cc
null_again e (array ds) bs h = absurd cc
null_again e (object ms) bs h = absurd cc

-- what is read of a value
pub value_again : (e : Elem) (s : Shape) (d : Data) (bs : List ℕ) → IsFormed e → value_from e s d ≡ Ok bs → IsValueAgain e s bs
value_again e Null d bs w h = null_again e d bs h
value_again e Scalar d bs w h = scalar_again e bs (element_again e d bs w (placed_ok 0 (encoded e d) bs h))
value_again e (Simple dims limits) d bs w h = simple_again e dims limits bs (nested_again e dims 0 d bs w h)

-- one element in each cell
pub repeated_again : (e : Elem) (s : Shape) (b : List ℕ) → IsAgain e b → IsValueAgain e s (repeated (count_of s) b)
repeated_again e Null b h = record { whole = omega arith; again = refl }
repeated_again e Scalar b h = scalar_again e (repeated 1 b) (subst (IsAgain e) (sym (append-nil b)) h)
repeated_again e (Simple dims limits) b h = simple_again e dims limits (repeated (cell_count dims) b) (repeated_nested e dims b h)
