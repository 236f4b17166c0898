-- A fault that stands first is the one that the tests find.
use Rattle.std.proofs.Common.{◌≡◌, ℕ, zero, suc, ◌+◌, ◌-◌, ◌<◌, ◌≤◌, ◌⊎◌, inl, inr, false, List, [], ◌∷◌, ◌++◌, length, take, get_or, Option, Some, None, Result, Ok, Err, nat_le, codes, refl, sym, ap, subst, ◌∙◌, arith}
use Rattle.std.specs.List.{AllByRecursion}
use Rattle.std.proofs.lemmas.Bool.{le-leb, cases_lt}
use Rattle.std.proofs.lemmas.Bool.Decides.{nat_tests}
use Rattle.std.proofs.Math.Bool.{and-false}
use Rattle.std.proofs.lemmas.List.{append_assoc, append-nil, take_all}
use Rattle.serde_json.specs.Data.{Data, null}
use Rattle.serde_json.specs.Find.{get}
use Rattle.json_trees.specs.Faults.{◌>>=◌}
use Rattle.hdf_types.specs.declared.faults.Cause.{Cause}
use Rattle.hdf_types.specs.declared.faults.Cause.TheVariants.{NotAType, Unsupported, TooDeep, TooMany, BadLength, DupField, TooLarge}
use Rattle.hdf_types.specs.declared.TheConstants.{MAX_NESTING, MAX_FIELDS, MAX_TEXT, MAX_SIZE}
use Rattle.hdf_types.specs.Elems.{Elem, compound, FieldList, no_fields, field, fields_depth}
use Rattle.hdf_types.specs.Faults.{Fault, fault}
use Rattle.hdf_types.specs.Reading.{is_good_length, sized_at, names_of, first_again, distinct_at, member_at, each_at, listed_at, fields_at, node_at, size_of, within_at, type_of}
use Rattle.hdf_types.specs.Types.{IsDistinct}
use Rattle.hdf_types.specs.FirstFault.{IsSizedText, IsMember, IsCompound, IsOutside, AreTypes, IsFirstAgain, HasCause, IsFault, IsFirstFault}
use Rattle.hdf_types.proofs.NameLemmas.{distinct_told}
use Rattle.hdf_types.proofs.TypeLemmas.{name_read, member_read, node_sound, fields_sound, node_read, fields_read}
use Rattle.hdf_types.proofs.CauseLemmas.{member_at_place, node_err}
use Rattle.hdf_types.proofs.FirstFaultLemmas.{class_read, sized_read, compound_told, first_again_is}
use Rattle.hdf_types.proofs.FieldLemmas.{fields_deep}

-- ---- a name that stands again

fewer : (P : List ℕ → Type 0) (m n : ℕ) (ns : List (List ℕ)) → m ≤ n → AllByRecursion P (take n ns) → AllByRecursion P (take m ns)
fewer P zero n ns le h = tt
fewer P (suc m) zero ns le h = absurd (omega arith)
fewer P (suc m) (suc n) [] le h = tt
fewer P (suc m) (suc n) (x ∷ xs) le h = (h.0, fewer P m n xs (omega arith) h.1)

fewer_distinct : (m n : ℕ) (ns : List (List ℕ)) → m ≤ n → IsDistinct (take n ns) → IsDistinct (take m ns)
fewer_distinct zero n ns le h = tt
fewer_distinct (suc m) zero ns le h = absurd (omega arith)
fewer_distinct (suc m) (suc n) [] le h = tt
fewer_distinct (suc m) (suc n) (x ∷ xs) le h = (fewer (λ y. y ≡ x → ⊥) m n xs (omega arith) h.0, fewer_distinct m n xs (omega arith) h.1)

again_found : (ns : List (List ℕ)) (k : ℕ) → IsFirstAgain k ns → first_again 0 [] ns ≡ Some k
again_found ns k h = by_found (first_again 0 [] ns) refl
  where
    by_found : (o : Option ℕ) → first_again 0 [] ns ≡ o → first_again 0 [] ns ≡ Some k
    by_found None is =
        let all : IsDistinct (take (length ns) ns) = subst IsDistinct (sym (take_all (length ns) ns (omega arith))) (distinct_told ns is) in
        absurd (h.2 (fewer_distinct (suc k) (length ns) ns (omega (arith, h.0)) all))
    by_found (Some j) is =
        let found = first_again_is ns j is in
        elim (cases_lt j k) [
          | inl less ↦ absurd (found.2 (fewer_distinct (suc j) k ns (omega (arith, less)) h.1))
          | inr least ↦ elim (cases_lt k j) [
            | inl less ↦ absurd (h.2 (fewer_distinct (suc k) j ns (omega (arith, less)) found.1))
            | inr most ↦ let same : j ≡ k = omega (arith, least, most) in is ∙ ap Some same
          ]
        ]

-- ---- among the fields of a compound

in_fields : (l : ℕ) (p : List ℕ) (d : Data) (ds : List Data) (f : Fault) → IsCompound d ds → fields_at l p ds ≡ Err f → node_at l p d ≡ Err f
in_fields l p d ds f h e = compound_told l p d ds h ∙ ap (λ r. r >>= λ fs. Ok (compound fs)) e

many_found : (l : ℕ) (p : List ℕ) (ds : List Data) → 1 ≤ l → 64 < length ds → fields_at l p ds ≡ Err (fault p TooMany)
unfolding fields_at listed_at
many_found zero p ds nests many = absurd (omega arith)
many_found (suc l) p ds nests many =
    let fails : nat_le (length ds) MAX_FIELDS ≡ false = grind (arith, nat_tests, many) in
    rw fails refl

again_in : (l : ℕ) (p : List ℕ) (ds : List Data) (fs : FieldList) (k : ℕ) → 1 ≤ l → length ds ≤ 64 → AreTypes (l - 1) ds fs → IsFirstAgain k (names_of fs) → fields_at l p ds ≡ Err (fault p (DupField k))
unfolding fields_at listed_at distinct_at
again_in zero p ds fs k nests few are again = absurd (omega arith)
again_in (suc l) p ds fs k nests few are again =
    let less : suc l - 1 ≡ l = omega arith in
    let deep : fields_depth fs ≤ l = rw less at are.1 in
    rw (le-leb (length ds) MAX_FIELDS few, fields_read fs l p 0 ds are.0 deep, again_found (names_of fs) k again) refl

member_fails : (read : List ℕ → Data → Result Elem Fault) (p : List ℕ) (k : ℕ) (d inner : Data) (f : Fault) → IsMember d → get (codes "type") d ≡ Some inner → read (p ++ k ∷ []) inner ≡ Err f → member_at read p k d ≡ Err f
unfolding member_at
member_fails read p k d inner f h given e = rw (name_read d h.0.0 h.0.1 h.0.2.0 h.0.2.1, given, e) refl

-- behind types, a member that fails
each_fails : (l : ℕ) (p : List ℕ) (k j : ℕ) (ds : List Data) (fs : FieldList) (f : Fault) → k < length ds → AreTypes l (take k ds) fs → member_at (node_at l) p (j + k) (get_or ds k null) ≡ Err f → each_at (node_at l) p j ds ≡ Err f
each_fails l p k j [] fs f low are e = absurd (omega arith)
each_fails l p zero j (d ∷ ds) fs f low are e =
    let place : j + zero ≡ j = omega arith in
    let fails = ap (λ n. member_at (node_at l) p n d) (sym place) ∙ e in
    rw fails refl
each_fails l p (suc k) j (d ∷ ds) no_fields f low are e = absurd are.0
each_fails l p (suc k) j (d ∷ ds) (field n kind rest) f low are e =
    let h = are.0 in
    let deep = are.1 in
    let place : j + suc k ≡ suc j + k = omega arith in
    let here = member_read (node_at l) p j d h.3.0 n kind (name_read d n h.0 h.1 h.2) h.3.1 (node_read kind l (p ++ j ∷ []) h.3.0 h.3.2 (omega (arith, deep))) in
    let later = each_fails l p k (suc j) ds rest f (omega arith) (h.4, omega (arith, deep)) (ap (λ m. member_at (node_at l) p m (get_or ds k null)) (sym place) ∙ e) in
    rw (here, later) refl

listed_fails : (l : ℕ) (p : List ℕ) (ds : List Data) (f : Fault) → length ds ≤ 64 → each_at (node_at l) p 0 ds ≡ Err f → fields_at (suc l) p ds ≡ Err f
unfolding fields_at listed_at
listed_fails l p ds f few e = rw (le-leb (length ds) MAX_FIELDS few, e) refl

-- ---- a node's own cause

outside_found : (l : ℕ) (p : List ℕ) (d : Data) → IsOutside l d → node_at l p d ≡ Err (fault p NotAType)
unfolding fault
outside_found l p d h = by_result (node_at l p d) refl
  where
    by_result : (r : Result Elem Fault) → node_at l p d ≡ r → node_at l p d ≡ Err (fault p NotAType)
    by_result (Ok e) is =
        let kind = node_sound l (fields_sound l) p d e is in
        absurd (h.no_type e kind.0 kind.1)
    by_result (Err f) is = elim (node_err l p d f.path f.cause is) [
      | inl leaf ↦ elim leaf.1 [
        | inl e ↦ is ∙ ap (λ q. Err (fault q f.cause)) (sym leaf.0) ∙ ap (λ c. Err (fault p c)) e
        | inr (inl e) ↦ absurd (h.no_class e.0 e.2)
        | inr (inr e) ↦ absurd (h.no_text e.1.0 e.1.1)
      ]
      | inr found ↦ absurd (h.no_compound found.0 found.1)
    ]

length_found : (p : List ℕ) (d : Data) (l n : ℕ) (h : IsSizedText d n) → (n ≡ 0) ⊎ (65535 < n) → node_at l p d ≡ Err (fault p BadLength)
unfolding sized_at
length_found p d l n h wrong =
    let fails : is_good_length n ≡ false = bad wrong in
    sized_read l p d n h ∙ rw fails refl
  where
    bad : (n ≡ 0) ⊎ (65535 < n) → is_good_length n ≡ false
    bad (inl e) = rw e refl
    bad (inr high) =
        let long : nat_le n MAX_TEXT ≡ false = grind (arith, nat_tests, high) in
        rw long (and-false (nat_le 1 n))

cause_found : (l : ℕ) (p : List ℕ) (d : Data) (c : Cause) → HasCause l d c → node_at l p d ≡ Err (fault p c)
cause_found l p d NotAType h = outside_found l p d h
cause_found l p d (Unsupported c) h = class_read l p d c h
cause_found l p d TooDeep h = in_fields l p d h.0 (fault p TooDeep) h.1 (fields_deep l p h.0 h.2)
cause_found l p d TooMany h = in_fields l p d h.0 (fault p TooMany) h.1 (many_found l p h.0 h.2 h.3)
cause_found l p d BadLength h = length_found p d l h.0 h.1 h.2
cause_found l p d (DupField k) h = in_fields l p d h.0 (fault p (DupField k)) h.1.0 (again_in l p h.0 h.2.0 k h.1.1 h.1.2 h.2.1 h.2.2)
cause_found l p d TooLarge h = absurd h

-- ---- at a path

fault_found : (path : List ℕ) (l : ℕ) (p : List ℕ) (d : Data) (c : Cause) → IsFault l d path c → node_at l p d ≡ Err (fault (p ++ path) c)
fault_found [] l p d c h = cause_found l p d c h ∙ ap (λ q. Err (fault q c)) (sym (append-nil p))
fault_found (k ∷ path) zero p d c h = absurd (omega (arith, h.1.1))
fault_found (k ∷ path) (suc l) p d c h =
    let less : suc l - 1 ≡ l = omega arith in
    let before : (fs : FieldList) × AreTypes l (take k h.0) fs = rw less at h.3 in
    let within : IsFault l h.4.0 path c = rw less at h.4.2 in
    let inner = fault_found path l (p ++ k ∷ []) h.4.0 c within ∙ ap (λ q. Err (fault q c)) (append_assoc p (k ∷ []) path) in
    let place : 0 + k ≡ k = omega arith in
    let fails = member_fails (node_at l) p k (get_or h.0 k null) h.4.0 (fault (p ++ k ∷ path) c) (member_at_place h.0 k h.1.0.members h.2) h.4.1 inner in
    let each = each_fails l p k 0 h.0 before.0 (fault (p ++ k ∷ path) c) h.2 before.1 (ap (λ n. member_at (node_at l) p n (get_or h.0 k null)) place ∙ fails) in
    in_fields (suc l) p d h.0 (fault (p ++ k ∷ path) c) h.1.0 (listed_fails l p h.0 (fault (p ++ k ∷ path) c) h.1.2 each)

large_found : (e : Elem) → 1048576 < size_of e → within_at e ≡ Err (fault [] TooLarge)
large_found e large =
    let fails : nat_le (size_of e) MAX_SIZE ≡ false = grind (arith, nat_tests, large) in
    rw fails refl

pub first_fault_found : (d : Data) (path : List ℕ) (c : Cause) → IsFirstFault d path c → type_of d ≡ Err (fault path c)
unfolding type_of
first_fault_found d path c (inl h) = ap (λ r. r >>= within_at) (fault_found path 4 [] d c h)
first_fault_found d path c (inr h) =
    ap (λ r. r >>= within_at) (node_read h.2.0 MAX_NESTING [] d h.2.1 h.2.2) ∙ large_found h.2.0 h.2.3
    ∙ ap (λ q. Err (fault q TooLarge)) (sym h.0) ∙ ap (λ b. Err (fault path b)) (sym h.1)
