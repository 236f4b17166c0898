-- Where the first fault of a tree stands, and what stands before it.
use Rattle.std.proofs.Common.{◌≡◌, ℕ, zero, suc, ◌+◌, ◌-◌, ◌<◌, ◌≤◌, ◌⊎◌, inl, inr, true, false, cond, List, [], ◌∷◌, ◌++◌, length, take, get_or, Option, Some, None, option_and_then, Result, Ok, Err, nat_le, codes, refl, sym, ap, subst, ◌∙◌, arith}
use Rattle.std.specs.Option.{ok_or}
use Rattle.std.specs.List.{list_any, AllByRecursion}
use Rattle.std.specs.Str.{bytes_eq}
use Rattle.std.proofs.lemmas.Bool.{leb-true, le-leb, cases_lt}
use Rattle.std.proofs.lemmas.List.{append_assoc, append-nil, length-append}
use Rattle.std.proofs.lemmas.Option.{same_Some}
use Rattle.serde_json.specs.Data.{Data, null}
use Rattle.serde_json.specs.Find.{get, as_str}
use Rattle.json_trees.specs.Trees.{list_of, whole_in, text_at}
use Rattle.json_trees.specs.Faults.{◌>>=◌}
use Rattle.json_trees.specs.Tables.{look_up}
use Rattle.json_trees.proofs.TableLemmas.{same_bytes}
use Rattle.json_trees.proofs.FaultLemmas.{chosen}
use Rattle.hdf_types.specs.declared.IntType.{IntType}
use Rattle.hdf_types.specs.declared.Pad.TheVariants.{NullTerm}
use Rattle.hdf_types.specs.declared.faults.Class.{Class}
use Rattle.hdf_types.specs.declared.faults.Class.TheVariants as classes
use Rattle.hdf_types.specs.declared.faults.Cause.{Cause}
use Rattle.hdf_types.specs.declared.faults.Cause.TheVariants.{NotAType, Unsupported, TooDeep, TooMany, DupField, TooLarge}
use Rattle.hdf_types.specs.declared.TheConstants.{MAX_NESTING, MAX_FIELDS, MAX_SIZE}
use Rattle.hdf_types.specs.Elems.{Elem, compound, FieldList, no_fields, field}
use Rattle.hdf_types.specs.Faults.{Fault, fault}
use Rattle.hdf_types.specs.Reading.{int_named, int_names, is_ieee, int_or, named_at, based_at, integer_at, sets, pads, sized_at, string_at, class_names, cause_or, class_cause, names_of, first_again, again_or, distinct_at, named_member, member_at, add_member, each_at, listed_at, node_by, compound_by, fields_at, node_at, size_of, within_at, type_of}
use Rattle.hdf_types.specs.FirstFault.{NamesClass, IsSizedText, IsMember, IsCompound, IsOutside, AreTypes, IsFirstAgain, HasCause, IsFault, IsFirstFault}
use Rattle.hdf_types.proofs.NameLemmas.{distinct_told, distinct_read}
use Rattle.hdf_types.proofs.TypeLemmas.{text_read, word_read, name_read, members_read, classed, Sound, member_sound, each_sound, node_sound, fields_sound, node_read}
use Rattle.hdf_types.proofs.CauseLemmas.{bind_err, same_fault, sized_err, members_pass, member_at_place, node_err}

-- ---- each form of a node is told

-- what holds of each name of a table holds of one that is found there
keyed : {A : Type 0} (Q : List ℕ → Type 0) (name : List ℕ) (table : List (List ℕ × A)) (x : A) → AllByRecursion (λ entry. Q entry.0) table → look_up name table ≡ Some x → Q name
keyed Q name [] x each e = cc
keyed Q name (entry ∷ rest) x each e = elim (chosen (bytes_eq name entry.0) (Some entry.1) (look_up name rest) (Some x) e) [
  | inl p ↦ subst Q (sym (same_bytes name entry.0 p.0)) each.0
  | inr p ↦ keyed Q name rest x each.1 p.1
]

float_no_int : (name : List ℕ) → is_ieee name ≡ true → int_named name ≡ None
unfolding int_named
float_no_int name h = by_found (look_up name int_names) refl
  where
    by_found : (o : Option IntType) → look_up name int_names ≡ o → look_up name int_names ≡ None
    by_found None is = is
    by_found (Some t) is =
        let plain : is_ieee name ≡ false = keyed (λ n. is_ieee n ≡ false) name int_names t
        (refl, (refl, (refl, (refl, (refl, (refl, (refl, (refl, (refl, (refl, (refl, (refl, (refl, (refl, (refl, (refl, tt)))))))))))))))) is in
        let no_way : true ≡ false = sym h ∙ plain in
        cc

named_float : (p name : List ℕ) → is_ieee name ≡ true → named_at p name ≡ Err (fault p (Unsupported classes.Float))
unfolding named_at
named_float p name h = ap (λ o. int_or o p name) (float_no_int name h) ∙ ap (λ b. Err (fault p (cond b (Unsupported classes.Float) NotAType))) h

pub class_read : (l : ℕ) (p : List ℕ) (d : Data) (c : Class) → NamesClass d c → node_at l p d ≡ Err (fault p (Unsupported c))
unfolding node_by integer_at string_at class_cause
class_read l p d c (inl h) = ap (node_at l p) h.0.1 ∙ named_float p h.0.0 h.0.2 ∙ ap (λ k. Err (fault p (Unsupported k))) (sym h.1)
class_read l p d c (inr (inl h)) =
    let name = h.1.2.0 in
    classed (compound_by (fields_at l)) p d (codes "H5T_INTEGER") h.0
    ∙ ap (based_at p) (text_read (codes "base") d name (h.1.1 ∙ ap Some h.1.2.1)) ∙ named_float p name h.1.2.2 ∙ ap (λ k. Err (fault p (Unsupported k))) (sym h.2)
class_read l p d c (inr (inr (inl h))) =
    let fixed : text_at (codes "length") d ≡ Some (codes "H5T_VARIABLE") = text_read (codes "length") d (codes "H5T_VARIABLE") h.1 in
    let told : string_at p d ≡ Err (fault p (Unsupported classes.String)) = rw fixed refl in
    classed (compound_by (fields_at l)) p d (codes "H5T_STRING") h.0 ∙ told ∙ ap (λ k. Err (fault p (Unsupported k))) (sym h.2)
class_read l p d c (inr (inr (inr h))) =
    let other = keyed (λ w. (bytes_eq w (codes "H5T_INTEGER") ≡ false) × (bytes_eq w (codes "H5T_STRING") ≡ false) × (bytes_eq w (codes "H5T_COMPOUND") ≡ false)) h.0 class_names c
    ((refl, refl, refl), ((refl, refl, refl), ((refl, refl, refl), ((refl, refl, refl), ((refl, refl, refl), ((refl, refl, refl), ((refl, refl, refl), ((refl, refl, refl), tt)))))))) h.2 in
    classed (compound_by (fields_at l)) p d h.0 h.1 ∙ rw (other.0, other.1, other.2) (ap (λ o. Err (fault p (cause_or o))) h.2)

pub sized_read : (l : ℕ) (p : List ℕ) (d : Data) (n : ℕ) (h : IsSizedText d n) → node_at l p d ≡ sized_at p h.char_set.0 h.padding.0 n
unfolding string_at
sized_read l p d n h =
    let fixed : text_at (codes "length") d ≡ None = ap (option_and_then as_str) h.length_given in
    let given : option_and_then whole_in (get (codes "length") d) ≡ Some n = ap (option_and_then whole_in) h.length_given in
    let told : string_at p d ≡ sized_at p h.char_set.0 h.padding.0 n =
    rw (fixed, word_read false sets (get (codes "charSet") d) h.char_set.0 h.char_set.1, word_read NullTerm pads (get (codes "strPad") d) h.padding.0 h.padding.1, given) refl in
    classed (compound_by (fields_at l)) p d (codes "H5T_STRING") h.class ∙ told

pub compound_told : (l : ℕ) (p : List ℕ) (d : Data) (ds : List Data) → IsCompound d ds → node_at l p d ≡ (fields_at l p ds >>= λ fs. Ok (compound fs))
unfolding compound_by
compound_told l p d ds h =
    let P = λ (es : List Data). 1 ≤ length es in
    let Q = λ (es : List Data). AllByRecursion IsMember es in
    let is = h.list.2 in
    let found = members_read d h.list.0 h.list.1 (subst P (sym is) h.some_field) (members_pass (list_of h.list.0) (subst Q (sym is) h.members)) ∙ ap Some is in
    classed (compound_by (fields_at l)) p d (codes "H5T_COMPOUND") h.class
    ∙ ap (λ o. (ok_or o (fault p NotAType) >>= fields_at l p) >>= λ fs. Ok (compound fs)) found

outside : (l : ℕ) (p : List ℕ) (d : Data) → node_at l p d ≡ Err (fault p NotAType) → ((ds : List Data) → IsCompound d ds → fields_at l p ds ≡ Err (fault p NotAType) → ⊥) → IsOutside l d
outside l p d fails none = record {
  no_type = λ e h k. cc (fails, node_read e l p d h k);
  no_class = λ c h.
      let same = same_fault p p NotAType (Unsupported c) (node_at l p d) fails (class_read l p d c h) in
      let causes = same.1 in
      cc;
  no_text = λ n h.
      let found = sized_err p h.char_set.0 h.padding.0 n p NotAType (sym (sized_read l p d n h) ∙ fails) in
      let causes = found.1 in
      cc;
  no_compound = λ ds h. elim (bind_err (fields_at l p ds) (λ fs. Ok (compound fs)) (fault p NotAType) (sym (compound_told l p d ds h) ∙ fails)) [
    | inl e ↦ none ds h e
    | inr e ↦ cc (e.2)
  ];
}

-- ---- a name that stands again

again_at : (j : ℕ) (earlier ns : List (List ℕ)) (k : ℕ) → first_again j earlier ns ≡ Some k
    → (i : ℕ) × (k ≡ j + i) × (i < length ns) × (first_again j earlier (take i ns) ≡ None) × (first_again j earlier (take (suc i) ns) ≡ Some k)
again_at j earlier [] k h = cc
again_at j earlier (n ∷ ns) k h = elim (chosen (list_any (λ m. bytes_eq m n) earlier) (Some j) (first_again (suc j) (earlier ++ n ∷ []) ns) (Some k) h) [
  | inl e ↦ let same = same_Some j k e.1 in (zero, omega (arith, same), omega arith, refl, rw e.0 e.1)
  | inr e ↦
      let rest = again_at (suc j) (earlier ++ n ∷ []) ns k e.1 in
      let place = rest.1 in
      let low = rest.2 in
      (suc rest.0, omega (arith, place), omega (arith, low), rw e.0 rest.3, rw e.0 rest.4)
]

pub first_again_is : (ns : List (List ℕ)) (k : ℕ) → first_again 0 [] ns ≡ Some k → IsFirstAgain k ns
first_again_is ns k h =
    let found = again_at 0 [] ns k h in
    let place = found.1 in
    let is : found.0 ≡ k = omega (arith, place) in
    subst (λ i. IsFirstAgain i ns) is (found.2, distinct_told (take found.0 ns) found.3, λ d. cc (distinct_read (take (suc found.0) ns) d, found.4))

again_err : (o : Option ℕ) (p : List ℕ) (fs : FieldList) (q : List ℕ) (c : Cause) → again_or o p fs ≡ Err (fault q c) → (k : ℕ) × (o ≡ Some k) × (p ≡ q) × (c ≡ DupField k)
again_err None p fs q c h = cc
again_err (Some k) p fs q c h = let same = same_fault p q (DupField k) c (again_or (Some k) p fs) refl h in (k, refl, same.0, sym same.1)

-- ---- a member whose type has a fault, and types before it

each_err : (l : ℕ) (read : List ℕ → Data → Result Elem Fault) → Sound l read → (p : List ℕ) (j : ℕ) (ds : List Data) (q : List ℕ) (c : Cause) → each_at read p j ds ≡ Err (fault q c)
    → (i : ℕ) × (i < length ds) × ((fs : FieldList) × AreTypes l (take i ds) fs) × (member_at read p (j + i) (get_or ds i null) ≡ Err (fault q c))
each_err l read sound p j [] q c h = cc
each_err l read sound p j (d ∷ ds) q c h = elim (bind_err (member_at read p j d) (λ m. each_at read p (suc j) ds >>= add_member m) (fault q c) h) [
  | inl e ↦
      let place : j + zero ≡ j = omega arith in
      (zero, omega arith, (no_fields, (tt, omega arith)), ap (λ n. member_at read p n d) place ∙ e)
  | inr e ↦ elim (bind_err (each_at read p (suc j) ds) (add_member e.0) (fault q c) e.2) [
    | inl f ↦
        let rest = each_err l read sound p (suc j) ds q c f in
        let here = member_sound l read sound p j d e.0 e.1 in
        let low = rest.1 in
        let deep = here.shallow in
        let deeper = rest.2.1.1 in
        let place : j + suc rest.0 ≡ suc j + rest.0 = omega arith in (
          suc rest.0,
          omega (arith, low),
          (field e.0.name e.0.elem rest.2.0, ((here.named, here.some_name, here.short, here.inner, rest.2.1.0), omega (arith, deep, deeper))),
          ap (λ n. member_at read p n (get_or ds rest.0 null)) place ∙ rest.3,
        )
    | inr f ↦ cc (f.2)
  ]
]

member_err : (read : List ℕ → Data → Result Elem Fault) (p : List ℕ) (k : ℕ) (d : Data) → IsMember d → (q : List ℕ) (c : Cause) → member_at read p k d ≡ Err (fault q c)
    → (inner : Data) × (get (codes "type") d ≡ Some inner) × (read (p ++ k ∷ []) inner ≡ Err (fault q c))
unfolding member_at
member_err read p k d h q c e =
    let name = h.0.0 in
    let inner = h.1.0 in
    let whole : member_at read p k d ≡ (read (p ++ k ∷ []) inner >>= named_member name) = rw (name_read d name h.0.1 h.0.2.0 h.0.2.1, h.1.1) refl in
    elim (bind_err (read (p ++ k ∷ []) inner) (named_member name) (fault q c) (sym whole ∙ e)) [
      | inl f ↦ (inner, h.1.1, f)
      | inr f ↦ cc (f.2)
    ]

-- ---- the fields of a compound

abbrev IsListFault : ℕ → List Data → Cause → Type 0
IsListFault l ds c =
    ((c ≡ TooDeep) × (l ≡ 0)) ⊎ (((c ≡ TooMany) × (1 ≤ l) × (64 < length ds))
    ⊎ ((k : ℕ) × (c ≡ DupField k) × (1 ≤ l) × (length ds ≤ 64) × ((fs : FieldList) × AreTypes (l - 1) ds fs × IsFirstAgain k (names_of fs))))

record IsInnerFault (l : ℕ) (p : List ℕ) (ds : List Data) (q : List ℕ) (c : Cause) : Type 0 where
  index : ℕ
  rest : List ℕ
  path : q ≡ p ++ index ∷ rest
  nests : 1 ≤ l
  few : length ds ≤ 64
  within : index < length ds
  before : (fs : FieldList) × AreTypes (l - 1) (take index ds) fs
  inner : (inner : Data) × (get (codes "type") (get_or ds index null) ≡ Some inner) × IsFault (l - 1) inner rest c

abbrev IsFieldsFault : ℕ → List ℕ → List Data → List ℕ → Cause → Type 0
IsFieldsFault l p ds q c = ((p ≡ q) × IsListFault l ds c) ⊎ IsInnerFault l p ds q c

-- no fault among the fields is told as the compound's being no type
not_outside : (l : ℕ) (p : List ℕ) (ds : List Data) → IsFieldsFault l p ds p NotAType → ⊥
not_outside l p ds (inl h) = elim h.1 [ inl e ↦ cc (e.0) | inr (inl e) ↦ cc (e.0) | inr (inr e) ↦ cc (e.1) ]
not_outside l p ds (inr h) =
    let long = ap length h.path in
    omega (arith, long, length-append p (h.index ∷ h.rest))

-- a node's fault, given those of fields
node_place : (l : ℕ) → ((p : List ℕ) (ds : List Data) (q : List ℕ) (c : Cause) → AllByRecursion IsMember ds → fields_at l p ds ≡ Err (fault q c) → IsFieldsFault l p ds q c)
    → (p : List ℕ) (d : Data) (q : List ℕ) (c : Cause) → node_at l p d ≡ Err (fault q c) → (rest : List ℕ) × (q ≡ p ++ rest) × IsFault l d rest c
node_place l fields p d q c h = elim (node_err l p d q c h) [
  | inl leaf ↦ (
    [],
    sym leaf.0 ∙ sym (append-nil p),
    elim leaf.1 [
      | inl e ↦
          let fails : node_at l p d ≡ Err (fault p NotAType) = h ∙ ap (λ z. Err (fault z c)) (sym leaf.0) ∙ ap (λ z. Err (fault p z)) e in
          subst (λ z. HasCause l d z) (sym e) (outside l p d fails (λ ds is k. not_outside l p ds (fields p ds p NotAType is.members k)))
      | inr (inl e) ↦ subst (λ z. HasCause l d z) (sym e.1) e.2
      | inr (inr e) ↦ subst (λ z. HasCause l d z) (sym e.0) e.1
    ],
  )
  | inr found ↦ elim (fields p found.0 q c found.1.members found.2) [
    | inl own ↦ (
      [],
      sym own.0 ∙ sym (append-nil p),
      elim own.1 [
        | inl e ↦ subst (λ z. HasCause l d z) (sym e.0) (found.0, found.1, e.1)
        | inr (inl e) ↦ subst (λ z. HasCause l d z) (sym e.0) (found.0, found.1, e.1, e.2)
        | inr (inr e) ↦ subst (λ z. HasCause l d z) (sym e.1) (found.0, (found.1, e.2, e.3), e.4)
      ],
    )
    | inr deep ↦ (deep.index ∷ deep.rest, deep.path, (found.0, (found.1, deep.nests, deep.few), deep.within, deep.before, deep.inner))
  ]
]

many : (ds : List Data) → nat_le (length ds) MAX_FIELDS ≡ false → 64 < length ds
many ds h = elim (cases_lt 64 (length ds)) [
  | inl high ↦ high
  | inr low ↦ let few = le-leb (length ds) 64 low in cc
]

few_of : (ds : List Data) → nat_le (length ds) MAX_FIELDS ≡ true → length ds ≤ 64
few_of ds h = leb-true (length ds) 64 h

fields_place : (l : ℕ) (p : List ℕ) (ds : List Data) (q : List ℕ) (c : Cause) → AllByRecursion IsMember ds → fields_at l p ds ≡ Err (fault q c) → IsFieldsFault l p ds q c
unfolding fields_at listed_at distinct_at
fields_place zero p ds q c members h = let same = same_fault p q TooDeep c (fields_at zero p ds) refl h in inl (same.0, inl (sym same.1, refl))
fields_place (suc l) p ds q c members h =
    let less : suc l - 1 ≡ l = omega arith in
    elim (chosen (nat_le (length ds) MAX_FIELDS) (each_at (node_at l) p 0 ds >>= distinct_at p) (Err (fault p TooMany)) (Err (fault q c)) h) [
      | inl e ↦ elim (bind_err (each_at (node_at l) p 0 ds) (distinct_at p) (fault q c) e.1) [
        | inl f ↦
            let found = each_err l (node_at l) (node_sound l (fields_sound l)) p 0 ds q c f in
            let first : found.0 ≡ 0 + found.0 = omega arith in
            let fails = ap (λ n. member_at (node_at l) p n (get_or ds found.0 null)) first ∙ found.3 in
            let inner = member_err (node_at l) p found.0 (get_or ds found.0 null) (member_at_place ds found.0 members found.1) q c fails in
            let below = node_place l (fields_place l) (p ++ found.0 ∷ []) inner.0 q c inner.2 in
            inr (record {
              index = found.0;
              rest = below.0;
              path = below.1 ∙ append_assoc p (found.0 ∷ []) below.0;
              nests = omega arith;
              few = few_of ds e.0;
              within = found.1;
              before = rw less found.2;
              inner = rw less (inner.0, inner.1, below.2);
            })
        | inr f ↦
            let again = again_err (first_again 0 [] (names_of f.0)) p f.0 q c f.2 in
            let whole = each_sound l (node_at l) (node_sound l (fields_sound l)) p 0 ds f.0 f.1 in
            inl (again.2, inr (inr (again.0, again.3, omega arith, few_of ds e.0, rw less (f.0, (whole.fields, whole.shallow), first_again_is (names_of f.0) again.0 again.1))))
      ]
      | inr e ↦
          let same = same_fault {A = FieldList} p q TooMany c (Err (fault p TooMany)) refl e.1 in
          inl (same.0, inr (inl (sym same.1, omega arith, many ds e.0)))
    ]

-- ---- the whole tree

too_large : (e : Elem) (p : List ℕ) (c : Cause) → within_at e ≡ Err (fault p c) → (p ≡ []) × (c ≡ TooLarge) × (1048576 < size_of e)
too_large e p c h = elim (chosen (nat_le (size_of e) MAX_SIZE) (Ok e) (Err (fault [] TooLarge)) (Err (fault p c)) h) [
  | inl k ↦ cc (k.1)
  | inr k ↦
      let same = same_fault {A = Elem} [] p TooLarge c (Err (fault [] TooLarge)) refl k.1 in
      (sym same.0, sym same.1, elim (cases_lt 1048576 (size_of e)) [ inl high ↦ high | inr low ↦ let small = le-leb (size_of e) 1048576 low in cc (small, k.0) ])
]

pub first_fault_told : (d : Data) (p : List ℕ) (c : Cause) → type_of d ≡ Err (fault p c) → IsFirstFault d p c
unfolding type_of
first_fault_told d p c h = elim (bind_err (node_at MAX_NESTING [] d) within_at (fault p c) h) [
  | inl e ↦
      let found = node_place 4 (fields_place 4) [] d p c e in
      inl (subst (λ q. IsFault 4 d q c) (sym found.1) found.2)
  | inr e ↦
      let kind = node_sound MAX_NESTING (fields_sound MAX_NESTING) [] d e.0 e.1 in
      let large = too_large e.0 p c e.2 in
      inr (large.0, large.1, (e.0, kind.0, kind.1, large.2))
]

-- ---- a fault stands no deeper than compounds nest

fault_depth : (path : List ℕ) (l : ℕ) (d : Data) (c : Cause) → IsFault l d path c → length path ≤ l
fault_depth [] l d c h = omega arith
fault_depth (k ∷ path) l d c h = omega (arith, h.1.1, fault_depth path (l - 1) h.4.0 c h.4.2)

pub first_fault_depth : (d : Data) (path : List ℕ) (c : Cause) → IsFirstFault d path c → length path ≤ 4
first_fault_depth d path c (inl h) = fault_depth path 4 d c h
first_fault_depth d path c (inr h) = omega (arith, ap length h.0)
