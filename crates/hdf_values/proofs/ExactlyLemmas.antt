-- Of trees whose texts are UTF-8 exactly the values have bytes.
use Rattle.std.proofs.Common.{◌≡◌, ◌↔◌, ℕ, ◌+◌, ◌++◌, ℤ, if◌then◌else◌, List, [], ◌∷◌, length, Option, Some, None, Result, Ok, Err, inl, inr, refl, sym, ap, subst, ◌∙◌}
use Rattle.std.specs.List.{AllByRecursion}
use Rattle.std.proofs.lemmas.Bool.{cases_Bool}
use Rattle.serde_json.specs.Data.{Data, null, boolean, number, string, array, object, Items, no_items, item}
use Rattle.serde_json.specs.Find.{as_str}
use Rattle.json_trees.specs.Trees.{list_of, list_in, AreTexts, AreItemTexts}
use Rattle.json_trees.specs.Faults.{◌>>=◌}
use Rattle.json_trees.proofs.TreeLemmas.{list_in_array}
use Rattle.hdf_types.specs.declared.IntType.{IntType}
use Rattle.hdf_types.specs.declared.TextType.{TextType}
use Rattle.hdf_types.specs.Elems.{Elem, int, text, compound, FieldList, no_fields, field}
use Rattle.shapes.specs.declared.Shape.{Shape}
use Rattle.shapes.specs.declared.Shape.TheVariants.{Null, Scalar, Simple}
use Rattle.shapes.specs.RowMajor.{cell_count}
use Rattle.hdf_values.specs.declared.faults.Misfit.{Misfit}
use Rattle.hdf_values.specs.declared.faults.Misfit.TheVariants.{OutOfRange}
use Rattle.hdf_values.specs.declared.faults.ValueFault.{ValueFault}
use Rattle.hdf_values.specs.Integers.{integer_in, in_range, IsInRange, int_bytes}
use Rattle.hdf_values.specs.Texts.{text_misfit, padded}
use Rattle.hdf_values.specs.Elements.{Fits, FitFields, bytes_of, encoded, fields_encoded, int_encoded, text_encoded, misfit_or, listed_or, joined}
use Rattle.hdf_values.specs.Nested.{FitsNested, nested_bytes, each_nested, nested_from}
use Rattle.hdf_values.specs.Shaped.{IsValue, null_from, value_from}
use Rattle.hdf_values.proofs.IntegerLemmas.{range_told}
use Rattle.hdf_values.proofs.TextLemmas.{string_read, tree_fits}
use Rattle.hdf_values.proofs.ElementLemmas.{encoded-fits, bytes_written}
use Rattle.hdf_values.proofs.NestedLemmas.{nested_read}
use Rattle.hdf_values.proofs.FirstLemmas.{counted_ok, placed_ok}
use Rattle.hdf_values.proofs.ShapedLemmas.{value_read}

-- ---- leaves

int_fits : (t : IntType) (o : Option ℤ) (bs : List ℕ) → int_encoded t o ≡ Ok bs → (z : ℤ) × (o ≡ Some z) × IsInRange t z
int_fits t None bs h = absurd cc
int_fits t (Some z) bs h = elim (cases_Bool (in_range t z)) [
  | inl e ↦ (z, refl, range_told t z e)
  | inr e ↦
      let wrong : Err OutOfRange ≡ Ok bs = sym (ap (λ b. if b then Ok (int_bytes t z) else Err OutOfRange) e) ∙ h in
      absurd cc
]

misfit_none : (o : Option Misfit) (xs bs : List ℕ) → misfit_or o xs ≡ Ok bs → o ≡ None
misfit_none None xs bs h = refl
misfit_none (Some m) xs bs h = absurd cc

text_fits : (t : TextType) (d : Data) (o : Option (List ℕ)) (bs : List ℕ) → o ≡ as_str d → AreTexts d → text_encoded t o ≡ Ok bs → Fits (text t) d
text_fits t d None bs is u h = absurd cc
text_fits t d (Some s) bs is u h = tree_fits t d s is (subst AreTexts (string_read d s is) u) (misfit_none (text_misfit t s) (padded t s) bs h)

-- ---- lists

item_texts : (items : Items) → AreItemTexts items → AllByRecursion AreTexts (list_of items)
item_texts no_items h = tt
item_texts (item d ds) h = (h.0, item_texts ds h.1)

list_texts : (d : Data) (items : Items) → d ≡ array items → AreTexts d → AllByRecursion AreTexts (list_of items)
list_texts d items is u = item_texts items (subst AreTexts is u)

joined_ok : (a b : Result (List ℕ) Misfit) (bs : List ℕ) → joined a b ≡ Ok bs → (xs : List ℕ) × (ys : List ℕ) × (a ≡ Ok xs) × (b ≡ Ok ys)
joined_ok (Ok xs) (Ok ys) bs h = (xs, ys, refl, refl)
joined_ok (Ok xs) (Err n) bs h = absurd cc
joined_ok (Err m) (Ok ys) bs h = absurd cc
joined_ok (Err m) (Err n) bs h = absurd cc

compound_fits : (fs : FieldList) (d : Data) (o : Option (List Data)) (bs : List ℕ) → list_in d ≡ o → AreTexts d → ((ds : List Data) (xs : List ℕ) → AllByRecursion AreTexts ds → fields_encoded fs ds ≡ Ok xs → FitFields fs ds)
    → listed_or (fields_encoded fs) o ≡ Ok bs → Fits (compound fs) d
compound_fits fs d None bs is u each h = absurd cc
compound_fits fs d (Some ds) bs is u each h =
    let list = list_in_array d ds is in
    let texts = subst (AllByRecursion AreTexts) list.2 (list_texts d list.0 list.1 u) in
    (list.0, list.1, subst (FitFields fs) (sym list.2) (each ds bs texts h))

mutual
  fits : (e : Elem) (d : Data) (bs : List ℕ) → AreTexts d → encoded e d ≡ Ok bs → Fits e d
  fits (int t) d bs u h = int_fits t (integer_in d) bs h
  fits (text t) d bs u h = text_fits t d (as_str d) bs refl u h
  fits (compound fs) d bs u h = compound_fits fs d (list_in d) bs refl u (fields_fit fs) h

  fields_fit : (fs : FieldList) (ds : List Data) (bs : List ℕ) → AllByRecursion AreTexts ds → fields_encoded fs ds ≡ Ok bs → FitFields fs ds
  fields_fit no_fields [] bs u h = tt
  fields_fit no_fields (d ∷ ds) bs u h = absurd cc
  fields_fit (field n e rest) [] bs u h = absurd cc
  fields_fit (field n e rest) (d ∷ ds) bs u h =
      let both = joined_ok (encoded e d) (fields_encoded rest ds) bs h in
      (fits e d both.0 u.0 both.2, fields_fit rest ds both.1 u.1 both.3)

-- ---- nested lists

each_ok : (r later : Result (List ℕ) ValueFault) (bs : List ℕ) → (r >>= λ xs. later >>= λ rest. Ok (xs ++ rest)) ≡ Ok bs → (xs : List ℕ) × (ys : List ℕ) × (r ≡ Ok xs) × (later ≡ Ok ys)
each_ok (Ok xs) (Ok ys) bs h = (xs, ys, refl, refl)
each_ok (Ok xs) (Err g) bs h = absurd cc
each_ok (Err g) later bs h = absurd cc

members_fit : (read : ℕ → Data → Result (List ℕ) ValueFault) (F : Data → Type 0) (c p : ℕ) (ds : List Data) (bs : List ℕ) → ((q : ℕ) (y : Data) (xs : List ℕ) → AreTexts y → read q y ≡ Ok xs → F y)
    → AllByRecursion AreTexts ds → each_nested read c p ds ≡ Ok bs → AllByRecursion F ds
members_fit read F c p [] bs each u h = tt
members_fit read F c p (d ∷ ds) bs each u h =
    let both = each_ok (read p d) (each_nested read c (p + c) ds) bs h in
    (each p d both.0 u.0 both.2, members_fit read F c (p + c) ds both.1 each u.1 both.3)

nested_fit : (e : Elem) (dims : List ℕ) (p : ℕ) (d : Data) (bs : List ℕ) → AreTexts d → nested_from e dims p d ≡ Ok bs → FitsNested e dims d
nested_fit e [] p d bs u h = fits e d bs u (placed_ok p (encoded e d) bs h)
nested_fit e (n ∷ ns) p d bs u h =
    let c = cell_count ns in
    let read = counted_ok n p (each_nested (nested_from e ns) c p) (list_in d) bs h in
    let list = list_in_array d read.0 read.1 in
    let texts = subst (AllByRecursion AreTexts) list.2 (list_texts d list.0 list.1 u) in
    let each = members_fit (nested_from e ns) (FitsNested e ns) c p read.0 bs (λ q y xs w k. nested_fit e ns q y xs w k) texts read.3 in
    (list.0, list.1, ap length list.2 ∙ read.2, subst (AllByRecursion (FitsNested e ns)) (sym list.2) each)

-- ---- laws

pub exactly_fits : (e : Elem) (d : Data) (bs : List ℕ) → AreTexts d → (encoded e d ≡ Ok bs) ↔ (Fits e d × (bs ≡ bytes_of e d))
exactly_fits e d bs u = (
  λ h.
      let value = fits e d bs u h in
      (value, bytes_written e d bs value (sym h)),
  λ h. encoded-fits e d h.0 ∙ ap (λ xs. Ok xs) (sym h.1),
)

pub exactly_nested : (e : Elem) (dims : List ℕ) (p : ℕ) (d : Data) (bs : List ℕ) → AreTexts d → (nested_from e dims p d ≡ Ok bs) ↔ (FitsNested e dims d × (bs ≡ nested_bytes e dims d))
exactly_nested e dims p d bs u = (
  λ h.
      let value = nested_fit e dims p d bs u h in
      (value, cc (h, nested_read e dims p d value)),
  λ h. nested_read e dims p d h.0 ∙ ap (λ xs. Ok xs) (sym h.1),
)

null_told : (d : Data) (bs : List ℕ) → null_from d ≡ Ok bs → (d ≡ null) × (bs ≡ [])
null_told null bs h = (refl, cc)
null_told (boolean b) bs h = absurd cc
null_told (number n) bs h = absurd cc
null_told (string s) bs h = absurd cc
null_told (array ds) bs h = absurd cc
null_told (object ms) bs h = absurd cc

value_told : (e : Elem) (s : Shape) (d : Data) (bs : List ℕ) → AreTexts d → value_from e s d ≡ Ok bs → IsValue e s d bs
value_told e Null d bs u h = null_told d bs h
value_told e Scalar d bs u h = (exactly_fits e d bs u).0 (placed_ok 0 (encoded e d) bs h)
value_told e (Simple dims limits) d bs u h = (exactly_nested e dims 0 d bs u).0 h

pub exactly_value : (e : Elem) (s : Shape) (d : Data) (bs : List ℕ) → AreTexts d → (value_from e s d ≡ Ok bs) ↔ IsValue e s d bs
exactly_value e s d bs u = (value_told e s d bs u, value_read e s d bs)
