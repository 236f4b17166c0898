-- The bytes of some value, part by part.
use Rattle.std.proofs.Common.{◌≡◌, ◌↔◌, ℕ, suc, Fits as FitsWidth, w8, get_or, ◌/◌, ◌≤◌, ◌<◌, ℤ, Bool, IsTrue, nat_eq, eqb-true, eq-eqb, Option, Some, None, Result, Ok, Err, IfOk, List, [], ◌∷◌, ◌++◌, length, take, drop, replicate, refl, sym, ap, subst, ◌∙◌, arith, length-append}
use Rattle.std.specs.Prelude.{⊤}
use Rattle.std.specs.Option.{option_map_or}
use Rattle.std.specs.List.{AllByRecursion}
use Rattle.std.proofs.lemmas.List.{take_at, drop_at, take-append-drop}
use Rattle.serde_json.specs.Data.{Data, number, array}
use Rattle.serde_json.specs.Find.{of_integer}
use Rattle.serde_json.specs.View.{items_of}
use Rattle.json_trees.specs.Trees.{list_of}
use Rattle.json_trees.proofs.FaultLemmas.{test_ok}
use Rattle.hdf_types.specs.declared.IntType.{IntType}
use Rattle.hdf_types.specs.Elems.{Elem, int, compound, FieldList, no_fields, field}
use Rattle.hdf_types.specs.Reading.{int_size, size_of}
use Rattle.hdf_types.specs.Types.{IsWidth, IsFormed, AreFormed}
use Rattle.hdf_values.specs.declared.faults.Misfit.{Misfit}
use Rattle.hdf_values.specs.declared.faults.Misfit.TheVariants.{OutOfRange}
use Rattle.hdf_values.specs.Integers.{integer_in, IsInRange, in_range, int_bytes, int_value}
use Rattle.hdf_values.specs.Elements.{Fits, FitFields, bytes_of, fields_bytes, IsEncoded, AreEncodedFields, zero_of, zeros_of, int_encoded as int_bytes_or, outcome}
use Rattle.hdf_values.proofs.IntegerLemmas.{range_told, bytes-value, value_in_range, zero_bytes}
use Rattle.hdf_values.proofs.ElementLemmas.{list_of-items_of, integer_in-number, length-bytes_of}

pub length-encoded : (e : Elem) (bs : List ℕ) → IsFormed e → IsEncoded e bs → length bs ≡ size_of e
length-encoded e bs w h = ap length (sym h.2) ∙ length-bytes_of e h.0 w h.1

-- all bytes of the right size are a whole number's
pub int_encoded : (t : IntType) (bs : List ℕ) → IsWidth t.bits → AllByRecursion (λ b. b < 256) bs → length bs ≡ int_size t.bits → IsEncoded (int t) bs
int_encoded t bs w bytes size =
    let z = int_value t bs in
    (number (of_integer z), (z, integer_in-number z, value_in_range t bs w bytes size), ap (λ o. option_map_or (int_bytes t) o []) (integer_in-number z) ∙ bytes-value t bs w bytes size)

-- ---- compounds

fields_encoded : (fs : FieldList) (ds : List Data) → FitFields fs ds → AreEncodedFields fs (fields_bytes fs ds)
fields_encoded no_fields ds h = refl
fields_encoded (field n e rest) [] h = absurd h
fields_encoded (field n e rest) (d ∷ ds) h = (bytes_of e d, fields_bytes rest ds, refl, (d, h.0, refl), fields_encoded rest ds h.1)

fields_values : (fs : FieldList) (bs : List ℕ) → AreEncodedFields fs bs → (ds : List Data) × FitFields fs ds × (fields_bytes fs ds ≡ bs)
fields_values no_fields bs h = ([], tt, sym h)
fields_values (field n e rest) bs h =
    let later = fields_values rest h.1 h.4 in
    (h.3.0 ∷ later.0, (h.3.1, later.1), ap (λ a. a ++ fields_bytes rest later.0) h.3.2 ∙ ap (λ b. h.0 ++ b) later.2 ∙ sym h.2)

pub compound_encoded : (fs : FieldList) (bs : List ℕ) → IsEncoded (compound fs) bs ↔ AreEncodedFields fs bs
compound_encoded fs bs = (
  λ h. subst (AreEncodedFields fs) (sym (ap (bytes_of (compound fs)) h.1.1) ∙ h.2) (fields_encoded fs (list_of h.1.0) h.1.2),
  λ h.
      let given = fields_values fs bs h in
      let same = list_of-items_of given.0 in
      (array (items_of given.0), (items_of given.0, refl, subst (FitFields fs) (sym same) given.1), ap (fields_bytes fs) same ∙ given.2),
)

-- the first field has the bytes in front, as many as its size
pub record IsFirstEncoded (e : Elem) (rest : FieldList) (bs : List ℕ) : Type 0 where
  pub long : size_of e ≤ length bs
  pub first : IsEncoded e (take (size_of e) bs)
  pub later : AreEncodedFields rest (drop (size_of e) bs)

first_told : (n : List ℕ) (e : Elem) (rest : FieldList) (bs : List ℕ) → IsFormed e → AreEncodedFields (field n e rest) bs → IsFirstEncoded e rest bs
first_told n e rest bs w h =
    let size = length-encoded e h.0 w h.3 in
    let front = ap (take (size_of e)) h.2 ∙ take_at h.0 h.1 (size_of e) size in
    let back = ap (drop (size_of e)) h.2 ∙ drop_at h.0 h.1 (size_of e) size in
    record {
      long = omega (arith, ap length h.2, length-append h.0 h.1, size);
      first = subst (IsEncoded e) (sym front) h.3;
      later = subst (AreEncodedFields rest) (sym back) h.4;
    }

pub first_encoded : (fs : FieldList) (n : List ℕ) (e : Elem) (rest : FieldList) (bs : List ℕ) → fs ≡ field n e rest → AreFormed fs → AreEncodedFields fs bs → IsFirstEncoded e rest bs
first_encoded fs n e rest bs is w h = first_told n e rest bs (subst AreFormed is w).2 (subst (λ gs. AreEncodedFields gs bs) is h)

pub more_encoded : (fs : FieldList) (n : List ℕ) (e : Elem) (rest : FieldList) (bs : List ℕ) → fs ≡ field n e rest → IsEncoded e (take (size_of e) bs) → AreEncodedFields rest (drop (size_of e) bs) → AreEncodedFields fs bs
more_encoded fs n e rest bs is first later =
    subst (λ gs. AreEncodedFields gs bs) (sym is) (take (size_of e) bs, drop (size_of e) bs, sym (take-append-drop (size_of e) bs), first, later)

-- ---- the tests

pub all_bytes : (bs : List ℕ) → ((i : ℕ) → FitsWidth w8 (get_or bs i 0)) → AllByRecursion (λ b. b < 256) bs
all_bytes [] h = tt
all_bytes (b ∷ bs) h = (omega (arith, h 0), all_bytes bs (λ i. h (suc i)))

pub int_test : (e : Elem) (t : IntType) (bs : List ℕ) → e ≡ int t → IsFormed e → AllByRecursion (λ b. b < 256) bs → IsTrue (nat_eq (length bs) (t.bits / 8)) ↔ IsEncoded e bs
int_test e t bs is w bytes =
    let formed : IsFormed (int t) = subst IsFormed is w in
    subst (λ x. IsTrue (nat_eq (length bs) (t.bits / 8)) ↔ IsEncoded x bs) (sym is)
    (λ h. int_encoded t bs formed bytes (eqb-true _ _ h), λ h. eq-eqb _ _ (length-encoded (int t) bs formed h))

pub compound_test : (e : Elem) (fs gs : FieldList) (bs : List ℕ) (b : Bool) → e ≡ compound fs → gs ≡ fs → (IsTrue b ↔ AreEncodedFields gs bs) → IsTrue b ↔ IsEncoded e bs
compound_test e fs gs bs b is same h =
    let told = subst (λ xs. IsTrue b ↔ AreEncodedFields xs bs) same h in
    subst (λ x. IsTrue b ↔ IsEncoded x bs) (sym is) (λ t. (compound_encoded fs bs).1 (told.0 t), λ w. told.1 ((compound_encoded fs bs).0 w))

int_told : (t : IntType) (o : Option ℤ) (bs : List ℕ) → int_bytes_or t o ≡ Ok bs → (z : ℤ) × (o ≡ Some z) × IsInRange t z
int_told t None bs e = cc
int_told t (Some z) bs e = (z, refl, range_told t z (test_ok (in_range t z) (Ok (int_bytes t z)) OutOfRange bs e).0)

-- a whole number that passes the test is one of the type
pub int_fits : (e : Elem) (t : IntType) (d : Data) (r : Result ⊤ Misfit) (bs : List ℕ) → e ≡ int t → outcome r bs ≡ int_bytes_or t (integer_in d) → IfOk r (λ u. Fits e d)
int_fits e t d (Err m) bs is h = tt
int_fits e t d (Ok u) bs is h = subst (λ x. Fits x d) (sym is) (int_told t (integer_in d) bs (sym h))

-- ---- 0 and the empty text

pub zero_int : (e : Elem) (t : IntType) → e ≡ int t → bytes_of e (zero_of e) ≡ replicate (size_of e) 0
zero_int e t is = subst (λ (x : Elem). bytes_of x (zero_of x) ≡ replicate (size_of x) 0) (sym is) (zero_bytes t)

pub zero_compound : (e : Elem) (fs : FieldList) → e ≡ compound fs → bytes_of e (zero_of e) ≡ fields_bytes fs (zeros_of fs)
zero_compound e fs is = subst (λ (x : Elem). bytes_of x (zero_of x) ≡ fields_bytes fs (zeros_of fs)) (sym is) (ap (fields_bytes fs) (list_of-items_of (zeros_of fs)))
