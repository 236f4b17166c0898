-- Why a node is no type, where its own tests find it.
use Rattle.std.proofs.Common.{◌≡◌, ℕ, zero, suc, ◌<◌, ◌⊎◌, inl, inr, Bool, true, false, List, [], ◌∷◌, length, get_or, Option, Some, None, option_and_then, Result, Ok, Err, codes, refl, sym, ap, ◌∙◌, arith}
use Rattle.std.specs.Option.{ok_or, is_some, option_map_or}
use Rattle.std.specs.List.{AllByRecursion}
use Rattle.std.specs.Str.{bytes_eq}
use Rattle.std.proofs.lemmas.Bool.{le-leb, cases_lt, and_parts}
use Rattle.serde_json.specs.Data.{Data, null, string}
use Rattle.serde_json.specs.Find.{get, as_str}
use Rattle.json_trees.specs.Trees.{whole_in, text_at, HasClass}
use Rattle.json_trees.specs.Faults.{◌>>=◌}
use Rattle.json_trees.specs.Tables.{look_up}
use Rattle.json_trees.proofs.TreeLemmas.{and_then_some, text_of, whole_in_number}
use Rattle.json_trees.proofs.TableLemmas.{same_bytes}
use Rattle.json_trees.proofs.FaultLemmas.{chosen, ok_or_ok}
use Rattle.hdf_types.specs.declared.IntType.{IntType}
use Rattle.hdf_types.specs.declared.Pad.{Pad}
use Rattle.hdf_types.specs.declared.Pad.TheVariants.{NullTerm}
use Rattle.hdf_types.specs.declared.faults.Class.{Class}
use Rattle.hdf_types.specs.declared.faults.Class.TheVariants as classes
use Rattle.hdf_types.specs.declared.faults.Cause.{Cause}
use Rattle.hdf_types.specs.declared.faults.Cause.TheVariants.{NotAType, Unsupported, BadLength}
use Rattle.hdf_types.specs.declared.TheConstants.{MAX_TEXT}
use Rattle.hdf_types.specs.Elems.{Elem, compound}
use Rattle.hdf_types.specs.Faults.{Fault, fault}
use Rattle.hdf_types.specs.Reading.{int_named, is_ieee, name_cause, int_or, named_at, based_at, integer_at, sets, pads, word_or, is_variable, is_good_length, sized_at, string_at, name_in, is_member, list_pass, members_in, class_names, cause_or, class_cause, classed_by, worded_by, node_by, compound_by, fields_at, node_at}
use Rattle.hdf_types.specs.FirstFault.{NamesClass, IsSizedText, IsMember, IsCompound}
use Rattle.hdf_types.proofs.TypeLemmas.{text_told, word_told, name_told, name_read, members_told}

pub bind_err : {A B E : Type 0} (r : Result A E) (f : A → Result B E) (e : E) → (r >>= f) ≡ Err e → (r ≡ Err e) ⊎ ((x : A) × (r ≡ Ok x) × (f x ≡ Err e))
bind_err (Ok x) f e h = inr (x, refl, h)
bind_err (Err g) f e h = inl (let same : g ≡ e = cc in ap (λ x. Err x) same)

pub ok_or_err : {A E : Type 0} (o : Option A) (e g : E) → ok_or o e ≡ Err g → (o ≡ None) × (e ≡ g)
ok_or_err None e g h = (refl, cc)
ok_or_err (Some x) e g h = cc

pub same_fault : {A : Type 0} (p q : List ℕ) (b c : Cause) (r : Result A Fault) → r ≡ Err (fault p b) → r ≡ Err (fault q c) → (p ≡ q) × (b ≡ c)
unfolding fault
same_fault p q b c r h k =
    let e : fault p b ≡ fault q c = cc in
    (ap (λ (f : Fault). f.path) e, ap (λ (f : Fault). f.cause) e)

-- the cause of a node without fields
abbrev pub IsLeafCause : Data → Cause → Type 0
IsLeafCause d c = (c ≡ NotAType) ⊎ (((class : Class) × (c ≡ Unsupported class) × NamesClass d class) ⊎ ((c ≡ BadLength) × ((n : ℕ) × IsSizedText d n × ((n ≡ 0) ⊎ (65535 < n)))))

-- ---- integers

int_or_err : (o : Option IntType) (p name q : List ℕ) (c : Cause) → int_or o p name ≡ Err (fault q c) → (p ≡ q) × ((c ≡ NotAType) ⊎ ((is_ieee name ≡ true) × (c ≡ Unsupported classes.Float)))
int_or_err (Some t) p name q c h = cc
int_or_err None p name q c h =
    let same = same_fault p q (name_cause name) c (int_or None p name) refl h in
    (same.0, elim (chosen (is_ieee name) (Unsupported classes.Float) NotAType c same.1) [ inl e ↦ inr (e.0, sym e.1) | inr e ↦ inl (sym e.1) ])

named_err : (p name q : List ℕ) (c : Cause) → named_at p name ≡ Err (fault q c) → (p ≡ q) × ((c ≡ NotAType) ⊎ ((is_ieee name ≡ true) × (c ≡ Unsupported classes.Float)))
unfolding named_at
named_err p name q c h = int_or_err (int_named name) p name q c h

based_err : (o : Option (List ℕ)) (p q : List ℕ) (c : Cause) → based_at p o ≡ Err (fault q c) → (p ≡ q) × ((c ≡ NotAType) ⊎ ((name : List ℕ) × (o ≡ Some name) × (is_ieee name ≡ true) × (c ≡ Unsupported classes.Float)))
based_err None p q c h = let same = same_fault p q NotAType c (based_at p None) refl h in (same.0, inl (sym same.1))
based_err (Some name) p q c h =
    let found = named_err p name q c h in
    (found.0, elim found.1 [ inl e ↦ inl e | inr e ↦ inr (name, refl, e.0, e.1) ])

integer_err : (p : List ℕ) (d : Data) (q : List ℕ) (c : Cause) → HasClass (codes "H5T_INTEGER") d → integer_at p d ≡ Err (fault q c) → (p ≡ q) × IsLeafCause d c
unfolding integer_at
integer_err p d q c class h =
    let found = based_err (text_at (codes "base") d) p q c h in (
      found.0,
      elim found.1 [
        | inl e ↦ inl e
        | inr e ↦ inr (inl (classes.Float, e.3, inr (inl (class, (string e.0, text_told (codes "base") d e.0 e.1, (e.0, refl, e.2)), refl))))
      ],
    )

-- ---- texts

map_or_true : (word : List ℕ) (o : Option (List ℕ)) → option_map_or (λ s. bytes_eq s word) o false ≡ true → o ≡ Some word
map_or_true word None h = cc
map_or_true word (Some s) h = ap Some (same_bytes s word h)

bad_length : (n : ℕ) → is_good_length n ≡ false → (n ≡ 0) ⊎ (65535 < n)
bad_length zero h = inl refl
bad_length (suc n) h = elim (cases_lt 65535 (suc n)) [
  | inl high ↦ inr high
  | inr low ↦
      let good : is_good_length (suc n) ≡ true = rw (le-leb 1 (suc n) (omega arith), le-leb (suc n) MAX_TEXT low) refl in
      cc
]

pub sized_err : (p : List ℕ) (utf8 : Bool) (pad : Pad) (n : ℕ) (q : List ℕ) (c : Cause) → sized_at p utf8 pad n ≡ Err (fault q c) → (p ≡ q) × (c ≡ BadLength) × ((n ≡ 0) ⊎ (65535 < n))
unfolding sized_at
sized_err p utf8 pad n q c h = elim (chosen (is_good_length n) _ _ _ h) [
  | inl e ↦ cc
  | inr e ↦ let same = same_fault {A = Elem} p q BadLength c (Err (fault p BadLength)) refl e.1 in (same.0, sym same.1, bad_length n e.0)
]

outside_none : {A : Type 0} (o : Option A) (p q : List ℕ) (c : Cause) → ok_or o (fault p NotAType) ≡ Err (fault q c) → (p ≡ q) × (c ≡ NotAType)
outside_none {A} o p q c h =
    let none = ok_or_err o (fault p NotAType) (fault q c) h in
    let same = same_fault {A = A} p q NotAType c (Err (fault p NotAType)) refl (ap (λ f. Err f) none.1) in
    (same.0, sym same.1)

string_err : (p : List ℕ) (d : Data) (q : List ℕ) (c : Cause) → HasClass (codes "H5T_STRING") d → string_at p d ≡ Err (fault q c) → (p ≡ q) × IsLeafCause d c
unfolding string_at
string_err p d q c class h = elim (chosen (is_variable d) _ _ _ h) [
  | inl e ↦
      let same = same_fault {A = Elem} p q (Unsupported classes.String) c (Err (fault p (Unsupported classes.String))) refl e.1 in
      let variable = text_told (codes "length") d (codes "H5T_VARIABLE") (map_or_true (codes "H5T_VARIABLE") (text_at (codes "length") d) e.0) in
      (same.0, inr (inl (classes.String, sym same.1, inr (inr (inl (class, variable, refl))))))
  | inr e ↦ by_set e.1
]
  where
    outside : (p ≡ q) × (c ≡ NotAType) → (p ≡ q) × IsLeafCause d c
    outside found = (found.0, inl found.1)

    by_length : (utf8 : Bool) (pad : Pad) → word_or false sets (get (codes "charSet") d) ≡ Some utf8 → word_or NullTerm pads (get (codes "strPad") d) ≡ Some pad
        → (ok_or (option_and_then whole_in (get (codes "length") d)) (fault p NotAType) >>= λ n. sized_at p utf8 pad n) ≡ Err (fault q c) → (p ≡ q) × IsLeafCause d c
    by_length utf8 pad is_set is_pad k = elim (bind_err (ok_or (option_and_then whole_in (get (codes "length") d)) (fault p NotAType)) (λ n. sized_at p utf8 pad n) (fault q c) k) [
      | inl none ↦ outside (outside_none (option_and_then whole_in (get (codes "length") d)) p q c none)
      | inr found ↦
          let sized = sized_err p utf8 pad found.0 q c found.2 in
          let given = and_then_some whole_in (get (codes "length") d) found.0 (ok_or_ok _ _ found.0 found.1) in (
            sized.0,
            inr (inr (
              sized.1,
              (
                found.0,
                record {
                  class = class;
                  char_set = (utf8, word_told false sets (get (codes "charSet") d) utf8 is_set);
                  padding = (pad, word_told NullTerm pads (get (codes "strPad") d) pad is_pad);
                  length_given = given.1 ∙ ap Some (whole_in_number given.0 found.0 given.2);
                },
                sized.2,
              ),
            )),
          )
    ]

    by_pad : (utf8 : Bool) → word_or false sets (get (codes "charSet") d) ≡ Some utf8
        → (ok_or (word_or NullTerm pads (get (codes "strPad") d)) (fault p NotAType) >>= λ pad. ok_or (option_and_then whole_in (get (codes "length") d)) (fault p NotAType) >>= λ n. sized_at p utf8 pad n) ≡ Err (fault q c)
        → (p ≡ q) × IsLeafCause d c
    by_pad utf8 is_set k = elim (bind_err (ok_or (word_or NullTerm pads (get (codes "strPad") d)) (fault p NotAType)) _ (fault q c) k) [
      | inl none ↦ outside (outside_none (word_or NullTerm pads (get (codes "strPad") d)) p q c none)
      | inr found ↦ by_length utf8 found.0 is_set (ok_or_ok _ _ found.0 found.1) found.2
    ]

    by_set : (ok_or (word_or false sets (get (codes "charSet") d)) (fault p NotAType) >>= λ utf8. ok_or (word_or NullTerm pads (get (codes "strPad") d)) (fault p NotAType)
        >>= λ pad. ok_or (option_and_then whole_in (get (codes "length") d)) (fault p NotAType) >>= λ n. sized_at p utf8 pad n) ≡ Err (fault q c)
        → (p ≡ q) × IsLeafCause d c
    by_set k = elim (bind_err (ok_or (word_or false sets (get (codes "charSet") d)) (fault p NotAType)) _ (fault q c) k) [
      | inl none ↦ outside (outside_none (word_or false sets (get (codes "charSet") d)) p q c none)
      | inr found ↦ by_pad found.0 (ok_or_ok _ _ found.0 found.1) found.2
    ]

-- ---- members

some_of : {A : Type 0} (o : Option A) → is_some o ≡ true → (x : A) × (o ≡ Some x)
some_of None h = cc
some_of (Some x) h = (x, refl)

member_told : (d : Data) → is_member d ≡ true → IsMember d
member_told d h =
    let both = and_parts (is_some (name_in d)) (is_some (get (codes "type") d)) h in
    let named = some_of (name_in d) both.0 in
    let name = name_told d named.0 named.1 in
    ((named.0, name.0, (name.1, name.2)), some_of (get (codes "type") d) both.1)

member_read : (d : Data) → IsMember d → is_member d ≡ true
member_read d h = rw (name_read d h.0.0 h.0.1 h.0.2.0 h.0.2.1, h.1.1)

members_list : (ds : List Data) → list_pass ds ≡ true → AllByRecursion IsMember ds
members_list [] h = tt
members_list (d ∷ ds) h =
    let both = and_parts (is_member d) (list_pass ds) h in
    (member_told d both.0, members_list ds both.1)

pub members_pass : (ds : List Data) → AllByRecursion IsMember ds → list_pass ds ≡ true
members_pass [] h = refl
members_pass (d ∷ ds) h = rw (member_read d h.0) (members_pass ds h.1)

pub member_at_place : (ds : List Data) (k : ℕ) → AllByRecursion IsMember ds → k < length ds → IsMember (get_or ds k null)
member_at_place [] k h l = absurd (omega arith)
member_at_place (d ∷ ds) zero h l = h.0
member_at_place (d ∷ ds) (suc k) h l = member_at_place ds k h.1 (omega arith)

-- ---- a node

-- a node's own cause, or a fault among the fields of a compound
abbrev pub IsNodeFault : ℕ → List ℕ → Data → List ℕ → Cause → Type 0
IsNodeFault l p d q c = ((p ≡ q) × IsLeafCause d c) ⊎ ((ds : List Data) × IsCompound d ds × (fields_at l p ds ≡ Err (fault q c)))

pub node_err : (l : ℕ) (p : List ℕ) (d : Data) (q : List ℕ) (c : Cause) → node_at l p d ≡ Err (fault q c) → IsNodeFault l p d q c
unfolding node_by compound_by class_cause
node_err l p d q c h = by_word (as_str d) refl h
  where
    by_members : HasClass (codes "H5T_COMPOUND") d → compound_by (fields_at l) p d ≡ Err (fault q c) → IsNodeFault l p d q c
    by_members class k = elim (bind_err (ok_or (members_in d) (fault p NotAType)) (fields_at l p) (fault q c) k) [
      | inl none ↦ let found = outside_none (members_in d) p q c none in inl (found.0, inl found.1)
      | inr found ↦
          let told = members_told d found.0 (ok_or_ok _ _ found.0 found.1) in
          inr (found.0, record { class = class; list = (told.0, told.1, told.2); some_field = told.3; members = members_list found.0 told.4 }, found.2)
    ]

    by_found : (word : List ℕ) (o : Option Class) → HasClass word d → look_up word class_names ≡ o → (p ≡ q) × (cause_or o ≡ c) → IsNodeFault l p d q c
    by_found word None class is same = inl (same.0, inl (sym same.1))
    by_found word (Some held) class is same = inl (same.0, inr (inl (held, sym same.1, inr (inr (inr (word, class, is))))))

    by_class : (word : List ℕ) → HasClass word d → classed_by (compound_by (fields_at l)) p (Some word) d ≡ Err (fault q c) → IsNodeFault l p d q c
    by_class word class k = elim (chosen (bytes_eq word (codes "H5T_INTEGER")) _ _ _ k) [
      | inl e ↦ inl (integer_err p d q c (class ∙ ap (λ w. Some (string w)) (same_bytes word (codes "H5T_INTEGER") e.0)) e.1)
      | inr e ↦ elim (chosen (bytes_eq word (codes "H5T_STRING")) _ _ _ e.1) [
        | inl f ↦ inl (string_err p d q c (class ∙ ap (λ w. Some (string w)) (same_bytes word (codes "H5T_STRING") f.0)) f.1)
        | inr f ↦ elim (chosen (bytes_eq word (codes "H5T_COMPOUND")) _ _ _ f.1) [
          | inl g ↦ elim (bind_err (compound_by (fields_at l) p d) (λ fs. Ok (compound fs)) (fault q c) g.1) [
            | inl fails ↦ by_members (class ∙ ap (λ w. Some (string w)) (same_bytes word (codes "H5T_COMPOUND") g.0)) fails
            | inr gives ↦ cc (gives.2)
          ]
          | inr g ↦ by_found word (look_up word class_names) class refl (same_fault {A = Elem} p q (class_cause word) c (Err (fault p (class_cause word))) refl g.1)
        ]
      ]
    ]

    by_classes : (o : Option (List ℕ)) → text_at (codes "class") d ≡ o → classed_by (compound_by (fields_at l)) p o d ≡ Err (fault q c) → IsNodeFault l p d q c
    by_classes None is k = let same = same_fault {A = Elem} p q NotAType c (Err (fault p NotAType)) refl k in inl (same.0, inl (sym same.1))
    by_classes (Some word) is k = by_class word (text_told (codes "class") d word is) k

    by_word : (o : Option (List ℕ)) → as_str d ≡ o → worded_by (compound_by (fields_at l)) p o d ≡ Err (fault q c) → IsNodeFault l p d q c
    by_word None is k = by_classes (text_at (codes "class") d) refl k
    by_word (Some name) is k =
        let found = named_err p name q c k in
        inl (found.0, elim found.1 [ inl e ↦ inl e | inr e ↦ inr (inl (classes.Float, e.1, inl ((name, text_of d name is, e.0), refl))) ])
