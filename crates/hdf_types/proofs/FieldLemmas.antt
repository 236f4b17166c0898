-- Fields that were read, in front of those that are still to be read.
use Rattle.std.proofs.Common.{◌≡◌, ℕ, zero, suc, ◌+◌, List, [], ◌∷◌, ◌++◌, true, false, Some, None, Result, Ok, Err, length, get_or, take, drop, ◌-◌, ◌<◌, ◌≤◌, nat_le, refl, sym, ap, ◌∙◌, arith, add-one}
use Rattle.std.specs.List.{list_any}
use Rattle.std.specs.Str.{bytes_eq}
use Rattle.std.proofs.lemmas.List.{drop_more, take_more}
use Rattle.std.proofs.lemmas.Bool.{le-leb}
use Rattle.std.proofs.lemmas.Bool.Decides.{nat_tests}
use Rattle.hdf_types.specs.declared.faults.Cause.TheVariants.{TooDeep, TooMany, DupField}
use Rattle.hdf_types.specs.declared.TheConstants.{MAX_FIELDS}
use Rattle.serde_json.specs.Data.{Data}
use Rattle.json_trees.specs.Faults.{◌>>=◌}
use Rattle.hdf_types.specs.declared.types.Field.{Field}
use Rattle.hdf_types.specs.declared.faults.TypeFault.{TypeFault}
use Rattle.hdf_types.specs.declared.faults.TypeFault.TheVariants.{NoMemory, Refused}
use Rattle.hdf_types.specs.Elems.{Elem, FieldList, no_fields, field, depth, fields_depth}
use Rattle.hdf_types.specs.declared.types.ElemType.{ElemType}
use Rattle.hdf_types.specs.Faults.{Fault, fault, Fails}
use Rattle.hdf_types.specs.Views.{elem, field_list, field_names}
use Rattle.hdf_types.specs.Printed.{field_tree, type_tree, fields_trees}
use Rattle.hdf_types.specs.Reading.{Member, member_at, each_at, add_member, names_of, first_again, again_or, distinct_at, listed_at, fields_at, node_at}

abbrev pub joined : FieldList → FieldList → FieldList
joined no_fields rest = rest
joined (field n e fs) rest = field n e (joined fs rest)

abbrev pub in_front : FieldList → FieldList → Result FieldList Fault
in_front front rest = Ok (joined front rest)

abbrev pub with_front : FieldList → Result FieldList Fault → Result FieldList Fault
with_front front r = r >>= in_front front

joined-push : (fs : FieldList) (n : List ℕ) (e : Elem) (rest : FieldList) → joined fs (field n e rest) ≡ joined (joined fs (field n e no_fields)) rest
joined-push no_fields n e rest = refl
joined-push (field m d fs) n e rest = ap (field m d) (joined-push fs n e rest)

pub field_list-push : (fs : List Field) (f : Field) → field_list (fs ++ f ∷ []) ≡ joined (field_list fs) (field f.name (elem f.elem) no_fields)
field_list-push [] f = refl
field_list-push (g ∷ fs) f = ap (field g.name (elem g.elem)) (field_list-push fs f)

one_more : (front : FieldList) (m : Member) (r : Result FieldList Fault) → with_front front (r >>= add_member m) ≡ with_front (joined front (field m.name m.elem no_fields)) r
one_more front m (Ok rest) = ap Ok (joined-push front m.name m.elem rest)
one_more front m (Err e) = refl

pub each_more : (read : List ℕ → Data → Result Elem Fault) (path : List ℕ) (k : ℕ) (d : Data) (ds : List Data) (front : FieldList) (m : Member) → member_at read path k d ≡ Ok m
    → with_front front (each_at read path k (d ∷ ds)) ≡ with_front (joined front (field m.name m.elem no_fields)) (each_at read path (suc k) ds)
each_more read path k d ds front m e = ap (λ r. with_front front (r >>= λ n. each_at read path (suc k) ds >>= add_member n)) e ∙ one_more front m (each_at read path (suc k) ds)

-- the error of one member is that of the whole
pub each_fails : (read : List ℕ → Data → Result Elem Fault) (path : List ℕ) (k : ℕ) (d : Data) (ds : List Data) (front : FieldList) (whole : Result FieldList Fault) (e : TypeFault)
    → with_front front (each_at read path k (d ∷ ds)) ≡ whole → Fails e (member_at read path k d) → Fails e whole
each_fails read path k d ds front whole NoMemory is h = tt
each_fails read path k d ds front whole (Refused p c) is h = sym is ∙ ap (λ r. with_front front (r >>= λ n. each_at read path (suc k) ds >>= add_member n)) h

joined_none : (fs : FieldList) → joined fs no_fields ≡ fs
joined_none no_fields = refl
joined_none (field n e fs) = ap (field n e) (joined_none fs)

pub front_alone : (fs : FieldList) → with_front fs (Ok no_fields) ≡ Ok fs
front_alone fs = ap Ok (joined_none fs)

pub front_none : (r : Result FieldList Fault) → with_front no_fields r ≡ r
front_none (Ok fs) = refl
front_none (Err e) = refl

pub names_of-list : (fs : List Field) → names_of (field_list fs) ≡ field_names fs
names_of-list [] = refl
names_of-list (f ∷ fs) = ap (λ ns. f.name ∷ ns) (names_of-list fs)

-- ---- a name that stands twice

names-push : (fs : List Field) (f : Field) → field_names (fs ++ f ∷ []) ≡ field_names fs ++ f.name ∷ []
names-push [] f = refl
names-push (g ∷ fs) f = ap (λ ns. g.name ∷ ns) (names-push fs f)

pub again_here : (fs : List Field) (i : ℕ) (f : Field) → i < length fs → f ≡ get_or fs i f → list_any (λ m. bytes_eq m f.name) (field_names (take i fs)) ≡ true
    → first_again i (field_names (take i fs)) (field_names (drop i fs)) ≡ Some i
again_here fs i f h is e =
    let more = drop_more fs i f h ∙ ap (λ (g : Field). g ∷ drop (i + 1) fs) (sym is) in
    ap (λ (gs : List Field). first_again i (field_names (take i fs)) (field_names gs)) more ∙ rw e

pub again_next : (fs : List Field) (i : ℕ) (f : Field) → i < length fs → f ≡ get_or fs i f → list_any (λ m. bytes_eq m f.name) (field_names (take i fs)) ≡ false
    → first_again i (field_names (take i fs)) (field_names (drop i fs)) ≡ first_again (i + 1) (field_names (take (i + 1) fs)) (field_names (drop (i + 1) fs))
again_next fs i f h is e =
    let more = drop_more fs i f h ∙ ap (λ (g : Field). g ∷ drop (i + 1) fs) (sym is) in
    let earlier = take_more fs i f h ∙ ap (λ (g : Field). take i fs ++ g ∷ []) (sym is) in
    let names : field_names (take (i + 1) fs) ≡ field_names (take i fs) ++ f.name ∷ [] = ap field_names earlier ∙ names-push (take i fs) f in
    ap (λ (gs : List Field). first_again i (field_names (take i fs)) (field_names gs)) more ∙ rw (e, names, add-one)

pub distinct_some : (path : List ℕ) (fs gs : List Field) (k : ℕ) → gs ≡ fs → Some k ≡ first_again 0 [] (field_names gs) → distinct_at path (field_list fs) ≡ Err (fault path (DupField k))
unfolding distinct_at
distinct_some path fs gs k same e =
    ap (λ ns. again_or (first_again 0 [] ns) path (field_list fs)) (names_of-list fs ∙ ap field_names (sym same)) ∙ ap (λ o. again_or o path (field_list fs)) (sym e)

pub distinct_none : (path : List ℕ) (fs gs : List Field) → gs ≡ fs → None ≡ first_again 0 [] (field_names gs) → distinct_at path (field_list fs) ≡ Ok (field_list fs)
unfolding distinct_at
distinct_none path fs gs same e =
    ap (λ ns. again_or (first_again 0 [] ns) path (field_list fs)) (names_of-list fs ∙ ap field_names (sym same)) ∙ ap (λ o. again_or o path (field_list fs)) (sym e)

-- ---- the tests before the fields

pub fields_deep : (levels : ℕ) (path : List ℕ) (ds : List Data) → levels ≡ 0 → fields_at levels path ds ≡ Err (fault path TooDeep)
unfolding fields_at
fields_deep levels path ds e = ap (λ l. fields_at l path ds) e

fields_below : (levels : ℕ) (path : List ℕ) (ds : List Data) → 0 < levels → fields_at levels path ds ≡ listed_at (node_at (levels - 1)) path ds
unfolding fields_at
fields_below zero path ds h = absurd (omega arith)
fields_below (suc l) path ds h =
    let same : l ≡ suc l - 1 = omega arith in
    ap (λ m. listed_at (node_at m) path ds) same

lt-leb : (a b : ℕ) → a < b → nat_le b a ≡ false
lt-leb a b h = grind (arith, nat_tests)

pub fields_many : (levels : ℕ) (path : List ℕ) (ds : List Data) → 0 < levels → MAX_FIELDS < length ds → fields_at levels path ds ≡ Err (fault path TooMany)
unfolding listed_at
fields_many levels path ds h k = fields_below levels path ds h ∙ rw (lt-leb MAX_FIELDS (length ds) k)

listed_few : (read : List ℕ → Data → Result Elem Fault) (path : List ℕ) (ds : List Data) → length ds ≤ MAX_FIELDS → listed_at read path ds ≡ (each_at read path 0 ds >>= distinct_at path)
unfolding listed_at
listed_few read path ds h = rw (le-leb (length ds) MAX_FIELDS h)

pub fields_listed : (levels : ℕ) (path : List ℕ) (ds : List Data) (fs : FieldList) → 0 < levels → length ds ≤ MAX_FIELDS → each_at (node_at (levels - 1)) path 0 ds ≡ Ok fs → fields_at levels path ds ≡ distinct_at path fs
fields_listed levels path ds fs h k e = fields_below levels path ds h ∙ listed_few (node_at (levels - 1)) path ds k ∙ ap (λ r. r >>= distinct_at path) e

pub fields_fail : (levels : ℕ) (path : List ℕ) (ds : List Data) (e : TypeFault) → 0 < levels → length ds ≤ MAX_FIELDS → Fails e (each_at (node_at (levels - 1)) path 0 ds) → Fails e (fields_at levels path ds)
fields_fail levels path ds NoMemory h k e = tt
fields_fail levels path ds (Refused p c) h k e = fields_below levels path ds h ∙ listed_few (node_at (levels - 1)) path ds k ∙ ap (λ r. r >>= distinct_at path) e

-- ---- walks over fields

pub depth-field : (fs : List Field) (i : ℕ) (f : Field) → i < length fs → f ≡ get_or fs i f → depth (elem f.elem) ≤ fields_depth (field_list fs)
depth-field [] i f h is = absurd (omega arith)
depth-field (g ∷ fs) zero f h is =
    let same : depth (elem f.elem) ≡ depth (elem g.elem) = ap (λ (x : Field). depth (elem x.elem)) is in
    omega (arith, same)
depth-field (g ∷ fs) (suc i) f h is = omega (arith, depth-field fs i f (omega arith) is)

pub copied_next : (items fs : List Field) (i : ℕ) (f g : Field) → i < length items → f ≡ get_or items i f → g.name ≡ f.name → g.elem ≡ f.elem → field_list fs ≡ field_list (take i items)
    → field_list (fs ++ g ∷ []) ≡ field_list (take (i + 1) items)
copied_next items fs i f g h is name kind e =
    let more = take_more items i f h ∙ ap (λ (x : Field). take i items ++ x ∷ []) (sym is) in
    field_list-push fs g
    ∙ ap (λ (n : List ℕ). joined (field_list fs) (field n (elem g.elem) no_fields)) name
    ∙ ap (λ (k : ElemType). joined (field_list fs) (field f.name (elem k) no_fields)) kind
    ∙ ap (λ (gs : FieldList). joined gs (field f.name (elem f.elem) no_fields)) e
    ∙ sym (field_list-push (take i items) f)
    ∙ ap field_list (sym more)

pub fields_trees-push : (fs : List Field) (f : Field) → fields_trees (field_list (fs ++ f ∷ [])) ≡ fields_trees (field_list fs) ++ field_tree f.name (type_tree (elem f.elem)) ∷ []
fields_trees-push [] f = refl
fields_trees-push (g ∷ fs) f = ap (λ ds. field_tree g.name (type_tree (elem g.elem)) ∷ ds) (fields_trees-push fs f)

pub printed_next : (items : List Field) (ds : List Data) (i : ℕ) (f : Field) (d : Data) → i < length items → f ≡ get_or items i f → d ≡ field_tree f.name (type_tree (elem f.elem)) → ds ≡ fields_trees (field_list (take i items))
    → ds ++ d ∷ [] ≡ fields_trees (field_list (take (i + 1) items))
printed_next items ds i f d h is shown e =
    let more = take_more items i f h ∙ ap (λ (x : Field). take i items ++ x ∷ []) (sym is) in
    ap (λ (t : Data). ds ++ t ∷ []) shown
    ∙ ap (λ (ts : List Data). ts ++ field_tree f.name (type_tree (elem f.elem)) ∷ []) e
    ∙ sym (fields_trees-push (take i items) f)
    ∙ ap (λ (fs : List Field). fields_trees (field_list fs)) (sym more)
