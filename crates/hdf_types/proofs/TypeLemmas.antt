-- The tests in order find the type that the grammar relates to the tree, and no other.
use Rattle.std.proofs.Common.{◌≡◌, ℕ, zero, suc, ◌≤◌, ◌&&◌, ◌⊎◌, inl, inr, Bool, true, false, cond, List, [], ◌∷◌, ◌++◌, length, Option, Some, None, option_and_then, Result, Ok, Err, IfOk, nat_le, codes, refl, sym, ap, subst, ◌∙◌, arith}
use Rattle.std.specs.Option.{ok_or}
use Rattle.std.specs.Str.{bytes_eq}
use Rattle.std.proofs.lemmas.Bool.{leb-true, le-leb, and_parts}
use Rattle.std.proofs.lemmas.Option.{same_Some}
use Rattle.serde_json.specs.Data.{Data, Items, null, boolean, number, string, array, object}
use Rattle.serde_json.specs.Find.{get, as_str}
use Rattle.json_trees.specs.Trees.{list_of, list_in, whole_in, text_at, HasClass}
use Rattle.json_trees.specs.Faults.{◌>>=◌}
use Rattle.json_trees.specs.Tables.{look_up}
use Rattle.json_trees.proofs.TreeLemmas.{and_then_some, list_in_array, whole_in_number, text_of}
use Rattle.json_trees.proofs.TableLemmas.{same_bytes}
use Rattle.json_trees.proofs.FaultLemmas.{bind_ok, chosen, ok_or_ok, test_ok}
use Rattle.hdf_types.specs.declared.IntType.{IntType}
use Rattle.hdf_types.specs.declared.TextType.{TextType}
use Rattle.hdf_types.specs.declared.Pad.{Pad}
use Rattle.hdf_types.specs.declared.Pad.TheVariants.{NullTerm}
use Rattle.hdf_types.specs.declared.faults.Cause.TheVariants.{NotAType, TooMany, BadLength, TooLarge}
use Rattle.hdf_types.specs.declared.TheConstants.{MAX_NESTING, MAX_FIELDS, MAX_TEXT, MAX_NAME, MAX_SIZE}
use Rattle.hdf_types.specs.Elems.{Elem, int, text, compound, FieldList, no_fields, field, depth, fields_depth}
use Rattle.hdf_types.specs.Faults.{Fault, fault, Gives}
use Rattle.hdf_types.specs.Views.{elem}
use Rattle.hdf_types.specs.declared.types.ElemType.{ElemType}
use Rattle.hdf_types.specs.declared.faults.TypeFault.{TypeFault}
use Rattle.hdf_types.specs.Reading.{int_named, int_or, named_at, based_at, integer_at, sets, pads, word_or, is_variable, is_good_length, sized_at, string_at, is_good_name, name_in, list_pass, some_members, members_in, names_of, first_again, again_or, distinct_at, Member, named_member, member_at, add_member, each_at, listed_at, classed_by, worded_by, node_by, compound_by, fields_at, node_at, size_of, within_at, type_of}
use Rattle.hdf_types.specs.Types.{IsIntObject, SpellsWord, IsTextObject, IsDistinct, IsTypeOf, AreFields, IsType}
use Rattle.hdf_types.proofs.NameLemmas.{distinct_told, distinct_read}

-- the text at a key
pub text_told : (key : List ℕ) (d : Data) (word : List ℕ) → text_at key d ≡ Some word → get key d ≡ Some (string word)
text_told key d word e =
    let found = and_then_some as_str (get key d) word e in
    found.1 ∙ ap Some (text_of found.0 word found.2)

pub text_read : (key : List ℕ) (d : Data) (word : List ℕ) → get key d ≡ Some (string word) → text_at key d ≡ Some word
text_read key d word e = ap (option_and_then as_str) e

-- ---- integers

int_or_ok : (o : Option IntType) (path name : List ℕ) (e : Elem) → int_or o path name ≡ Ok e → (t : IntType) × (e ≡ int t) × (o ≡ Some t)
int_or_ok (Some t) path name e h = (t, cc, refl)
int_or_ok None path name e h = cc

named_ok : (path name : List ℕ) (e : Elem) → named_at path name ≡ Ok e → (t : IntType) × (e ≡ int t) × (int_named name ≡ Some t)
unfolding named_at
named_ok path name e h = int_or_ok (int_named name) path name e h

ok_named : (path name : List ℕ) (t : IntType) → int_named name ≡ Some t → named_at path name ≡ Ok (int t)
unfolding named_at
ok_named path name t h = ap (λ o. int_or o path name) h

based_ok : (o : Option (List ℕ)) (path : List ℕ) (e : Elem) → based_at path o ≡ Ok e → (name : List ℕ) × (o ≡ Some name) × (named_at path name ≡ Ok e)
based_ok None path e h = cc
based_ok (Some name) path e h = (name, refl, h)

integer_ok : (path : List ℕ) (d : Data) (e : Elem) → HasClass (codes "H5T_INTEGER") d → integer_at path d ≡ Ok e → IsTypeOf d e × (depth e ≡ 0)
unfolding integer_at
integer_ok path d e class h =
    let base = based_ok (text_at (codes "base") d) path e h in
    let found = named_ok path base.0 e base.2 in
    let P = λ (x : Elem). IsTypeOf d x × (depth x ≡ 0) in
    subst P (sym found.1) (inr (class, (string base.0, text_told (codes "base") d base.0 base.1, (base.0, refl, found.2))), refl)

ok_integer : (path : List ℕ) (d : Data) (t : IntType) → IsIntObject d t → integer_at path d ≡ Ok (int t)
unfolding integer_at
ok_integer path d t h =
    let given : get (codes "base") d ≡ Some (string h.1.2.0) = h.1.1 ∙ ap Some h.1.2.1 in
    rw (text_read (codes "base") d h.1.2.0 given) (ok_named path h.1.2.0 t h.1.2.2)

-- ---- texts

pub word_told : {A : Type 0} (a : A) (table : List (List ℕ × A)) (o : Option Data) (x : A) → word_or a table o ≡ Some x → SpellsWord a table o x
word_told a table None x e = cc
word_told a table (Some d) x e =
    let found = and_then_some (λ s. look_up s table) (as_str d) x e in
    (found.0, text_of d found.0 found.1, found.2)

pub word_read : {A : Type 0} (a : A) (table : List (List ℕ × A)) (o : Option Data) (x : A) → SpellsWord a table o x → word_or a table o ≡ Some x
word_read a table None x h = ap Some (sym h)
word_read a table (Some d) x h = ap (λ t. option_and_then (λ s. look_up s table) (as_str t)) h.1 ∙ h.2

sized_ok : (path : List ℕ) (utf8 : Bool) (pad : Pad) (n : ℕ) (e : Elem) → sized_at path utf8 pad n ≡ Ok e → (e ≡ text (record { utf8 = utf8; pad = pad; len = n })) × (1 ≤ n) × (n ≤ MAX_TEXT)
unfolding sized_at
sized_ok path utf8 pad n e h =
    let passed = test_ok (is_good_length n) (Ok (text (record { utf8 = utf8; pad = pad; len = n }))) (fault path BadLength) e h in
    let ends = and_parts (nat_le 1 n) (nat_le n MAX_TEXT) passed.0 in
    (cc, leb-true 1 n ends.0, leb-true n MAX_TEXT ends.1)

string_ok : (path : List ℕ) (d : Data) (e : Elem) → HasClass (codes "H5T_STRING") d → string_at path d ≡ Ok e → IsTypeOf d e × (depth e ≡ 0)
unfolding string_at
string_ok path d e class h = elim (chosen (is_variable d) _ _ _ h) [
  | inl p ↦ cc
  | inr p ↦
      let one = bind_ok _ _ e p.1 in
      let two = bind_ok _ _ e one.2 in
      let three = bind_ok _ _ e two.2 in
      let sized = sized_ok path one.0 two.0 three.0 e three.2 in
      let length = and_then_some whole_in (get (codes "length") d) three.0 (ok_or_ok _ _ three.0 three.1) in
      let P = λ (x : Elem). IsTypeOf d x × (depth x ≡ 0) in
      subst P (sym sized.0) (
        record {
          class = class;
          char_set = word_told false sets (get (codes "charSet") d) one.0 (ok_or_ok _ _ one.0 one.1);
          padding = word_told NullTerm pads (get (codes "strPad") d) two.0 (ok_or_ok _ _ two.0 two.1);
          length_given = length.1 ∙ ap Some (whole_in_number length.0 three.0 length.2);
          some_length = sized.1;
          short = sized.2;
        },
        refl,
      )
]

ok_string : (path : List ℕ) (d : Data) (t : TextType) → IsTextObject d t → string_at path d ≡ Ok (text t)
unfolding string_at sized_at
ok_string path d t h =
    let fixed : text_at (codes "length") d ≡ None = ap (option_and_then as_str) h.length_given in
    let given : option_and_then whole_in (get (codes "length") d) ≡ Some t.len = ap (option_and_then whole_in) h.length_given in
    rw (fixed, word_read false sets (get (codes "charSet") d) t.utf8 h.char_set, word_read NullTerm pads (get (codes "strPad") d) t.pad h.padding, given, le-leb 1 t.len h.some_length, le-leb t.len MAX_TEXT h.short) refl

-- ---- a node

node_from : (F : List ℕ → Data → Result FieldList Fault) (path : List ℕ) (d : Data) (e : Elem) → node_by F path d ≡ Ok e
    → (IsTypeOf d e × (depth e ≡ 0)) ⊎ ((fs : FieldList) × (e ≡ compound fs) × HasClass (codes "H5T_COMPOUND") d × (F path d ≡ Ok fs))
unfolding node_by
node_from F path d e h = word_from (as_str d) refl h
  where
    class_from : (c : List ℕ) → text_at (codes "class") d ≡ Some c → classed_by F path (Some c) d ≡ Ok e → (IsTypeOf d e × (depth e ≡ 0)) ⊎ ((fs : FieldList) × (e ≡ compound fs) × HasClass (codes "H5T_COMPOUND") d × (F path d ≡ Ok fs))
    class_from c is k = elim (chosen (bytes_eq c (codes "H5T_INTEGER")) _ _ _ k) [
      | inl p ↦ inl (integer_ok path d e (text_told (codes "class") d (codes "H5T_INTEGER") (is ∙ ap Some (same_bytes c (codes "H5T_INTEGER") p.0))) p.1)
      | inr p ↦ elim (chosen (bytes_eq c (codes "H5T_STRING")) _ _ _ p.1) [
        | inl q ↦ inl (string_ok path d e (text_told (codes "class") d (codes "H5T_STRING") (is ∙ ap Some (same_bytes c (codes "H5T_STRING") q.0))) q.1)
        | inr q ↦ elim (chosen (bytes_eq c (codes "H5T_COMPOUND")) _ _ _ q.1) [
          | inl r ↦
              let parts = bind_ok (F path d) (λ fs. Ok (compound fs)) e r.1 in
              inr (parts.0, cc, text_told (codes "class") d (codes "H5T_COMPOUND") (is ∙ ap Some (same_bytes c (codes "H5T_COMPOUND") r.0)), parts.1)
          | inr r ↦ cc
        ]
      ]
    ]

    classes_from : (o : Option (List ℕ)) → text_at (codes "class") d ≡ o → classed_by F path o d ≡ Ok e → (IsTypeOf d e × (depth e ≡ 0)) ⊎ ((fs : FieldList) × (e ≡ compound fs) × HasClass (codes "H5T_COMPOUND") d × (F path d ≡ Ok fs))
    classes_from None is k = cc
    classes_from (Some c) is k = class_from c is k

    word_from : (o : Option (List ℕ)) → as_str d ≡ o → worded_by F path o d ≡ Ok e → (IsTypeOf d e × (depth e ≡ 0)) ⊎ ((fs : FieldList) × (e ≡ compound fs) × HasClass (codes "H5T_COMPOUND") d × (F path d ≡ Ok fs))
    word_from None is k = classes_from (text_at (codes "class") d) refl k
    word_from (Some name) is k =
        let found = named_ok path name e k in
        let P = λ (x : Elem). IsTypeOf d x × (depth x ≡ 0) in
        inl (subst P (sym found.1) (inl (name, text_of d name is, found.2), refl))

-- ---- members

pub name_told : (d : Data) (name : List ℕ) → name_in d ≡ Some name → (get (codes "name") d ≡ Some (string name)) × (1 ≤ length name) × (length name ≤ MAX_NAME)
name_told d name e =
    let found = and_then_some (λ n. cond (is_good_name n) (Some n) None) (text_at (codes "name") d) name e in
    good_from found.0 found.1 found.2
  where
    good_from : (n : List ℕ) → text_at (codes "name") d ≡ Some n → cond (is_good_name n) (Some n) None ≡ Some name → (get (codes "name") d ≡ Some (string name)) × (1 ≤ length name) × (length name ≤ MAX_NAME)
    good_from n is k = elim (chosen (is_good_name n) (Some n) None (Some name) k) [
      | inl p ↦
          let ends = and_parts (nat_le 1 (length n)) (nat_le (length n) MAX_NAME) p.0 in
          let P = λ (m : List ℕ). (get (codes "name") d ≡ Some (string m)) × (1 ≤ length m) × (length m ≤ MAX_NAME) in
          subst P (same_Some n name p.1) (text_told (codes "name") d n is, leb-true 1 (length n) ends.0, leb-true (length n) MAX_NAME ends.1)
      | inr p ↦ cc
    ]

pub name_read : (d : Data) (name : List ℕ) → get (codes "name") d ≡ Some (string name) → 1 ≤ length name → length name ≤ MAX_NAME → name_in d ≡ Some name
name_read d name e h k = ap (option_and_then (λ n. cond (is_good_name n) (Some n) None)) (text_read (codes "name") d name e) ∙ rw (le-leb 1 (length name) h, le-leb (length name) MAX_NAME k)

-- what `read` gives is a type of no more than `l` levels
abbrev pub Sound : ℕ → (List ℕ → Data → Result Elem Fault) → Type 0
Sound l read = (p : List ℕ) (d : Data) (e : Elem) → read p d ≡ Ok e → IsTypeOf d e × (depth e ≤ l)

pub record MemberParts (l : ℕ) (d : Data) (m : Member) : Type 0 where
  pub named : get (codes "name") d ≡ Some (string m.name)
  pub some_name : 1 ≤ length m.name
  pub short : length m.name ≤ MAX_NAME
  pub inner : (t : Data) × (get (codes "type") d ≡ Some t) × IsTypeOf t m.elem
  pub shallow : depth m.elem ≤ l

member_same : (x y : Member) (r : Result Member Fault) → r ≡ Ok x → r ≡ Ok y → x ≡ y
member_same x y r e k = cc

pub member_sound : (l : ℕ) (read : List ℕ → Data → Result Elem Fault) → Sound l read → (path : List ℕ) (k : ℕ) (d : Data) (m : Member) → member_at read path k d ≡ Ok m → MemberParts l d m
unfolding member_at
member_sound l read sound path k d m h =
    let one = bind_ok _ _ m h in
    let two = bind_ok _ _ m one.2 in
    let three = bind_ok _ _ m two.2 in
    let name = name_told d one.0 (ok_or_ok _ _ one.0 one.1) in
    let kind = sound (path ++ k ∷ []) two.0 three.0 three.1 in
    let P = MemberParts l d in
    let same : record { name = one.0; elem = three.0 } ≡ m = member_same (record { name = one.0; elem = three.0 }) m (named_member one.0 three.0) refl three.2 in
    subst P same (record { named = name.0; some_name = name.1; short = name.2; inner = (two.0, ok_or_ok _ _ two.0 two.1, kind.0); shallow = kind.1 })

pub record ListParts (l : ℕ) (ds : List Data) (fs : FieldList) : Type 0 where
  pub fields : AreFields ds fs
  pub shallow : fields_depth fs ≤ l
  pub count : length (names_of fs) ≡ length ds

fields_same : (x y : FieldList) (r : Result FieldList Fault) → r ≡ Ok x → r ≡ Ok y → x ≡ y
fields_same x y r e k = cc

pub each_sound : (l : ℕ) (read : List ℕ → Data → Result Elem Fault) → Sound l read → (path : List ℕ) (k : ℕ) (ds : List Data) (fs : FieldList) → each_at read path k ds ≡ Ok fs → ListParts l ds fs
each_sound l read sound path k [] fs h = subst (ListParts l []) (fields_same no_fields fs (Ok no_fields) refl h) (record { fields = tt; shallow = omega arith; count = refl })
each_sound l read sound path k (d ∷ ds) fs h =
    let first = bind_ok (member_at read path k d) (λ m. each_at read path (suc k) ds >>= add_member m) fs h in
    let rest = bind_ok (each_at read path (suc k) ds) (add_member first.0) fs first.2 in
    let here = member_sound l read sound path k d first.0 first.1 in
    let after = each_sound l read sound path (suc k) ds rest.0 rest.1 in
    let all = field first.0.name first.0.elem rest.0 in
    let deep = here.shallow in
    let deeper = after.shallow in
    subst (ListParts l (d ∷ ds)) (fields_same all fs (Ok all) refl rest.2) (record {
      fields = (here.named, here.some_name, here.short, here.inner, after.fields);
      shallow = omega (arith, deep, deeper);
      count = ap suc after.count;
    })

again_or_ok : (o : Option ℕ) (path : List ℕ) (fs gs : FieldList) → again_or o path fs ≡ Ok gs → (fs ≡ gs) × (o ≡ None)
again_or_ok (Some k) path fs gs h = cc
again_or_ok None path fs gs h = (cc, refl)

record WholeParts (l : ℕ) (ds : List Data) (fs : FieldList) : Type 0 where
  list : ListParts l ds fs
  few : length ds ≤ MAX_FIELDS
  distinct : IsDistinct (names_of fs)

listed_sound : (l : ℕ) (read : List ℕ → Data → Result Elem Fault) → Sound l read → (path : List ℕ) (ds : List Data) (fs : FieldList) → listed_at read path ds ≡ Ok fs → WholeParts l ds fs
unfolding listed_at distinct_at
listed_sound l read sound path ds fs h =
    let passed = test_ok (nat_le (length ds) MAX_FIELDS) (each_at read path 0 ds >>= distinct_at path) (fault path TooMany) fs h in
    let each = bind_ok (each_at read path 0 ds) (distinct_at path) fs passed.1 in
    let once = again_or_ok (first_again 0 [] (names_of each.0)) path each.0 fs each.2 in
    subst (WholeParts l ds) once.0 (record { list = each_sound l read sound path 0 ds each.0 each.1; few = leb-true (length ds) MAX_FIELDS passed.0; distinct = distinct_told (names_of each.0) once.1 })

pub members_told : (d : Data) (ds : List Data) → members_in d ≡ Some ds → (items : Items) × (get (codes "fields") d ≡ Some (array items)) × (list_of items ≡ ds) × (1 ≤ length ds) × (list_pass ds ≡ true)
unfolding members_in
members_told d ds e =
    let found = and_then_some some_members (option_and_then list_in (get (codes "fields") d)) ds e in
    let given = and_then_some list_in (get (codes "fields") d) found.0 found.1 in
    let items = list_in_array given.0 found.0 given.2 in
    some_from found.0 items.0 (given.1 ∙ ap Some items.1) items.2 found.2
  where
    some_from : (es : List Data) (items : Items) → get (codes "fields") d ≡ Some (array items) → list_of items ≡ es → some_members es ≡ Some ds → (items : Items) × (get (codes "fields") d ≡ Some (array items)) × (list_of items ≡ ds) × (1 ≤ length ds) × (list_pass ds ≡ true)
    some_from es items is same k = elim (chosen (nat_le 1 (length es) && list_pass es) (Some es) None (Some ds) k) [
      | inl p ↦
          let ends = and_parts (nat_le 1 (length es)) (list_pass es) p.0 in
          let eq = same_Some es ds p.1 in
          let P = λ (x : List Data). 1 ≤ length x in
          let Q = λ (x : List Data). list_pass x ≡ true in
          (items, is, same ∙ eq, subst P eq (leb-true 1 (length es) ends.0), subst Q eq ends.1)
      | inr p ↦ cc
    ]

-- ---- the descent gives types

pub node_sound : (l : ℕ) → ((path : List ℕ) (ds : List Data) (fs : FieldList) → fields_at l path ds ≡ Ok fs → AreFields ds fs × (suc (fields_depth fs) ≤ l) × (length (names_of fs) ≡ length ds) × (length ds ≤ MAX_FIELDS) × IsDistinct (names_of fs)) → Sound l (node_at l)
unfolding compound_by
node_sound l inner path d e h = elim (node_from (compound_by (fields_at l)) path d e h) [
  | inl leaf ↦ (leaf.0, omega (arith, leaf.1))
  | inr found ↦
      let listed = bind_ok (ok_or (members_in d) (fault path NotAType)) (fields_at l path) found.0 found.3 in
      let items = members_told d listed.0 (ok_or_ok (members_in d) _ listed.0 listed.1) in
      let whole = inner path listed.0 found.0 listed.2 in
      let count = whole.2 in
      let few = whole.3 in
      let some = items.3 in
      let P = λ (ds : List Data). AreFields ds found.0 in
      let Q = λ (x : Elem). IsTypeOf d x × (depth x ≤ l) in
      subst Q (sym found.1) ((found.2, (items.0, items.1, subst P (sym items.2) whole.0), omega (arith, count, some), omega (arith, count, few), whole.4), whole.1)
]

pub fields_sound : (l : ℕ) (path : List ℕ) (ds : List Data) (fs : FieldList) → fields_at l path ds ≡ Ok fs → AreFields ds fs × (suc (fields_depth fs) ≤ l) × (length (names_of fs) ≡ length ds) × (length ds ≤ MAX_FIELDS) × IsDistinct (names_of fs)
unfolding fields_at
fields_sound zero path ds fs h = cc
fields_sound (suc l) path ds fs h =
    let whole = listed_sound l (node_at l) (node_sound l (fields_sound l)) path ds fs h in
    let deep = whole.list.shallow in
    (whole.list.fields, omega (arith, deep), whole.list.count, whole.few, whole.distinct)

within_ok : (e f : Elem) → within_at e ≡ Ok f → (e ≡ f) × (size_of e ≤ MAX_SIZE)
within_ok e f h =
    let passed = test_ok (nat_le (size_of e) MAX_SIZE) (Ok e) (fault [] TooLarge) f h in
    (cc, leb-true (size_of e) MAX_SIZE passed.0)

pub type_told : (d : Data) (e : Elem) → type_of d ≡ Ok e → IsType d e
unfolding type_of
type_told d e h =
    let parts = bind_ok (node_at MAX_NESTING [] d) within_at e h in
    let kept = within_ok parts.0 e parts.2 in
    let kind = node_sound MAX_NESTING (fields_sound MAX_NESTING) [] d parts.0 parts.1 in
    subst (IsType d) kept.0 (kind.0, kind.1, kept.1)

-- ---- the descent finds each type

no_text : (class : List ℕ) (d : Data) → HasClass class d → as_str d ≡ None
no_text class null h = refl
no_text class (boolean b) h = refl
no_text class (number n) h = refl
no_text class (string s) h = cc
no_text class (array ds) h = refl
no_text class (object ms) h = refl

pub classed : (F : List ℕ → Data → Result FieldList Fault) (path : List ℕ) (d : Data) (class : List ℕ) → HasClass class d → node_by F path d ≡ classed_by F path (Some class) d
unfolding node_by
classed F path d class h = ap (λ o. worded_by F path o d) (no_text class d h) ∙ ap (λ o. classed_by F path o d) (text_read (codes "class") d class h)

node_named : (F : List ℕ → Data → Result FieldList Fault) (path name : List ℕ) (t : IntType) → int_named name ≡ Some t → node_by F path (string name) ≡ Ok (int t)
unfolding node_by
node_named F path name t h = ok_named path name t h

all_pass : (ds : List Data) (fs : FieldList) → AreFields ds fs → list_pass ds ≡ true
all_pass [] no_fields h = refl
all_pass [] (field n e rest) h = absurd h
all_pass (d ∷ ds) no_fields h = absurd h
all_pass (d ∷ ds) (field n e rest) h = rw (name_read d n h.0 h.1 h.2, h.3.1) (all_pass ds rest h.4)

same_length : (ds : List Data) (fs : FieldList) → AreFields ds fs → length ds ≡ length (names_of fs)
same_length [] no_fields h = refl
same_length [] (field n e rest) h = absurd h
same_length (d ∷ ds) no_fields h = absurd h
same_length (d ∷ ds) (field n e rest) h = ap suc (same_length ds rest h.4)

pub members_read : (d : Data) (items : Items) → get (codes "fields") d ≡ Some (array items) → 1 ≤ length (list_of items) → list_pass (list_of items) ≡ true → members_in d ≡ Some (list_of items)
unfolding members_in
members_read d items e h k = ap (λ o. option_and_then some_members (option_and_then list_in o)) e ∙ rw (le-leb 1 (length (list_of items)) h, k)

pub member_read : (read : List ℕ → Data → Result Elem Fault) (path : List ℕ) (k : ℕ) (d inner : Data) (n : List ℕ) (e : Elem) → name_in d ≡ Some n → get (codes "type") d ≡ Some inner → read (path ++ k ∷ []) inner ≡ Ok e → member_at read path k d ≡ Ok (record { name = n; elem = e })
unfolding member_at
member_read read path k d inner n e named given is = rw (named, given, is)

each_read : (read : List ℕ → Data → Result Elem Fault) (path : List ℕ) (k : ℕ) (d : Data) (ds : List Data) (m : Member) (rest : FieldList) → member_at read path k d ≡ Ok m → each_at read path (suc k) ds ≡ Ok rest → each_at read path k (d ∷ ds) ≡ Ok (field m.name m.elem rest)
each_read read path k d ds m rest e h = rw (e, h)

compound_read : (l : ℕ) (path : List ℕ) (d : Data) (items : Items) (fs : FieldList) → get (codes "fields") d ≡ Some (array items) → AreFields (list_of items) fs → 1 ≤ length (names_of fs) → length (names_of fs) ≤ MAX_FIELDS → IsDistinct (names_of fs)
    → each_at (node_at l) path 0 (list_of items) ≡ Ok fs → compound_by (fields_at (suc l)) path d ≡ Ok fs
unfolding compound_by fields_at listed_at distinct_at
compound_read l path d items fs given are some few distinct each =
    let same = same_length (list_of items) fs are in
    let some_items : 1 ≤ length (list_of items) = omega (arith, same, some) in
    let few_items : length (list_of items) ≤ MAX_FIELDS = omega (arith, same, few) in
    rw (members_read d items given some_items (all_pass (list_of items) fs are), le-leb (length (list_of items)) MAX_FIELDS few_items, each, distinct_read (names_of fs) distinct)

mutual
  pub node_read : (e : Elem) (l : ℕ) (path : List ℕ) (d : Data) → IsTypeOf d e → depth e ≤ l → node_at l path d ≡ Ok e
  node_read (int t) l path d (inl h) k = ap (node_at l path) h.1 ∙ node_named (compound_by (fields_at l)) path h.0 t h.2
  node_read (int t) l path d (inr h) k = classed (compound_by (fields_at l)) path d (codes "H5T_INTEGER") h.0 ∙ ok_integer path d t h
  node_read (text t) l path d h k = classed (compound_by (fields_at l)) path d (codes "H5T_STRING") h.class ∙ ok_string path d t h
  node_read (compound fs) zero path d h k = absurd (omega arith)
  node_read (compound fs) (suc l) path d h k =
      classed (compound_by (fields_at (suc l))) path d (codes "H5T_COMPOUND") h.0
      ∙ ap (λ r. r >>= λ gs. Ok (compound gs)) (compound_read l path d h.1.0 fs h.1.1 h.1.2 h.2 h.3 h.4 (fields_read fs l path 0 (list_of h.1.0) h.1.2 (omega arith)))

  pub fields_read : (fs : FieldList) (l : ℕ) (path : List ℕ) (k : ℕ) (ds : List Data) → AreFields ds fs → fields_depth fs ≤ l → each_at (node_at l) path k ds ≡ Ok fs
  fields_read no_fields l path k [] h s = refl
  fields_read no_fields l path k (d ∷ ds) h s = absurd h
  fields_read (field n e rest) l path k [] h s = absurd h
  fields_read (field n e rest) l path k (d ∷ ds) h s =
      each_read (node_at l) path k d ds (record { name = n; elem = e }) rest
      (member_read (node_at l) path k d h.3.0 n e (name_read d n h.0 h.1 h.2) h.3.1 (node_read e l (path ++ k ∷ []) h.3.0 h.3.2 (omega arith)))
      (fields_read rest l path (suc k) ds h.4 (omega arith))

pub type_read : (d : Data) (e : Elem) → IsType d e → type_of d ≡ Ok e
unfolding type_of
type_read d e h = ap (λ r. r >>= within_at) (node_read e MAX_NESTING [] d h.0 h.1) ∙ rw (le-leb (size_of e) MAX_SIZE h.2)

pub one_of : (e f : Elem) (r : Result Elem Fault) → r ≡ Ok e → r ≡ Ok f → e ≡ f
one_of e f r h k = cc

pub gives_type : (r : Result ElemType TypeFault) (d : Data) → Gives elem r (type_of d) → IfOk r (λ e. IsType d (elem e))
gives_type (Ok e) d h = type_told d (elem e) h
gives_type (Err f) d h = tt
