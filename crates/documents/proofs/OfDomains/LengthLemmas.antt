-- How long the texts of values and of documents are at least.
use Rattle.std.proofs.Common.{◌≡◌, ℕ, zero, suc, ◌+◌, ◌*◌, ◌/◌, ◌%◌, ◌<◌, ◌≤◌, ◌==◌, ◌&&◌, ◌⊎◌, inl, inr, min, ℤ, pos, negsuc, Bool, true, false, cond, T, List, [], ◌∷◌, ◌++◌, map, length, codes, decimal, Ordering, Less, Equal, Greater, is_eq, refl, sym, ap, subst, ◌∙◌, arith, le_trans, length-append}
use Rattle.std.specs.Cmp.{Equal-is}
use Rattle.std.specs.Cmp.Lexicographic.{nat_list_cmp_total}
use Rattle.std.specs.FinMap.{entries, entries_sorted, is_sorted}
use Rattle.std.specs.FinMap.Entries.{below_all}
use Rattle.std.specs.Fmt.{digit_glyph, digits, digits_onto}
use Rattle.std.specs.List.{AllByRecursion}
use Rattle.std.specs.Ordering.{eq_by_cmp, match_ordering}
use Rattle.std.proofs.lemmas.Cmp.{tied_itself}
use Rattle.serde_json.specs.Data.{Data, Members, no_members, member, put, object, string, array}
use Rattle.serde_json.specs.Find.{of_integer}
use Rattle.serde_json.specs.View.{items_of}
use Rattle.serde_json.specs.Written.{comma_if, compact_text, items_text, members_text, number_text}
use Rattle.containers.specs.TextMaps.Keyed.{text_order}
use Rattle.containers.proofs.Passing.{by_bool, contrary}
use Rattle.containers.proofs.Plain.{halves, less}
use Rattle.containers.proofs.TextMaps.KeyedMaps.{exact_texts}
use Rattle.hdf_types.specs.Elems.{Elem, int, text, compound}
use Rattle.hdf_types.specs.Printed.{type_tree}
use Rattle.hdf_types.specs.Reading.{size_of}
use Rattle.shapes.specs.RowMajor.{cell_count}
use Rattle.shapes.specs.Printed.{shape_tree}
use Rattle.shapes.specs.Shapes.{cells_of, dims_of}
use Rattle.shapes.specs.declared.Shape.{Shape}
use Rattle.shapes.specs.declared.Shape.TheVariants.{Null, Scalar, Simple}
use Rattle.hdf_values.specs.Elements.{decoded}
use Rattle.hdf_values.specs.Integers.{int_value}
use Rattle.hdf_values.specs.Nested.{nested_decoded, pieces}
use Rattle.hdf_values.specs.Shaped.{value_tree}
use Rattle.hdf_values.proofs.PieceLemmas.{length-pieces}
use Rattle.object_ids.specs.IdOrder.{id_order}
use Rattle.object_ids.specs.IdValues.{Id}
use Rattle.object_ids.specs.Ids.{InRange, text_of_id}
use Rattle.object_ids.specs.declared.ids.Kind.TheVariants as kind
use Rattle.object_ids.proofs.IdOrders.{id_order_total}
use Rattle.object_ids.proofs.IdTexts.{same_id}
use Rattle.object_acts.specs.Arrays.Creation.{creation_tree}
use Rattle.object_acts.specs.Objects.{Objects, empty_group}
use Rattle.object_acts.specs.declared.objects.Body.{Body}
use Rattle.object_acts.specs.declared.objects.Body.TheVariants.{Group, Dataset, Datatype}
use Rattle.object_acts.specs.declared.objects.Object.{Object}
use Rattle.attributes.specs.AttributeTrees.{attributes_list}
use Rattle.shapes.specs.declared.printing.Form.TheVariants.{Document}
use Rattle.chunk_store.specs.Grids.{reads}
use Rattle.documents.specs.Domains.Documents.{collection_tree, is_of, put_each, put_entries, put_one}
use Rattle.documents.specs.Domains.Entries.{body_tree, cells_tree, entry_tree}
use Rattle.documents.specs.Domains.Laws.{HasLeastLength}
use Rattle.documents.specs.Domains.Lengths.{least_body, least_nested, least_sum, least_values}
use Rattle.documents.specs.declared.domains.home.Home.{Home}

-- ---- numbers

digits_more : (k n : ℕ) (acc : List ℕ) → length acc ≤ length (digits_onto k 10 false n acc)
digits_more zero n acc = omega arith
digits_more (suc k) n acc = at (n / 10 == 0) (digits_more k (n / 10) (digit_glyph false (n % 10) ∷ acc)) where
  at : (b : Bool) → suc (length acc) ≤ length (digits_onto k 10 false (n / 10) (digit_glyph false (n % 10) ∷ acc))
      → length acc ≤ length (cond b (digit_glyph false (n % 10) ∷ acc) (digits_onto k 10 false (n / 10) (digit_glyph false (n % 10) ∷ acc)))
  at true more = omega arith
  at false more = omega arith

some_digit : (k n : ℕ) → 1 ≤ length (digits_onto (suc k) 10 false n [])
some_digit k n = at (n / 10 == 0) (digits_more k (n / 10) (digit_glyph false (n % 10) ∷ [])) where
  at : (b : Bool) → 1 ≤ length (digits_onto k 10 false (n / 10) (digit_glyph false (n % 10) ∷ []))
      → 1 ≤ length (cond b (digit_glyph false (n % 10) ∷ []) (digits_onto k 10 false (n / 10) (digit_glyph false (n % 10) ∷ [])))
  at true more = omega arith
  at false more = more

some_decimal : (n : ℕ) → 1 ≤ length (decimal n)
unfolding digits
some_decimal n = some_digit 63 n

some_number : (z : ℤ) → 1 ≤ length (number_text (of_integer z))
some_number (pos n) = some_decimal n
some_number (negsuc n) = omega arith

-- ---- values

some_element : (e : Elem) (bs : List ℕ) → 1 ≤ length (compact_text (decoded e bs))
some_element (int t) bs = some_number (int_value t bs)
some_element (text t) bs = omega arith
some_element (compound fs) bs = omega arith

module _ {A : Type 0} (f : A → Data) (k : ℕ) (least : (x : A) → k ≤ length (compact_text (f x))) where
  items_least : (xs : List A) → length xs * (k + 1) + 1 ≤ length (items_text true (items_of (map f xs)))
  items_least [] = omega arith
  items_least (x ∷ xs) = omega (arith, least x, items_least xs, length-append (compact_text (f x)) (items_text true (items_of (map f xs))))

  list_least : (xs : List A) → 1 + length xs * (k + 1) ≤ length (compact_text (array (items_of (map f xs))))
  list_least [] = omega arith
  list_least (x ∷ xs) = omega (arith, least x, items_least xs, length-append (compact_text (f x)) (items_text true (items_of (map f xs))))

nested_least : (e : Elem) (dims bs : List ℕ) → least_nested dims ≤ length (compact_text (nested_decoded e dims bs))
nested_least e [] bs = some_element e bs
nested_least e (n ∷ ns) bs =
    let parts : List (List ℕ) = pieces n (cell_count ns * size_of e) bs in
    subst (λ (k : ℕ). 1 + k * (least_nested ns + 1) ≤ length (compact_text (array (items_of (map (nested_decoded e ns) parts)))))
    (length-pieces n (cell_count ns * size_of e) bs) (list_least (nested_decoded e ns) (least_nested ns) (nested_least e ns) parts)

value_least : (e : Elem) (s : Shape) (bs : List ℕ) → least_nested (dims_of s) ≤ length (compact_text (value_tree e s bs))
value_least e Null bs = omega arith
value_least e Scalar bs = some_element e bs
value_least e (Simple dims limits) bs = nested_least e dims bs

-- ---- members

-- the texts of the values of the members whose keys pass a test
abbrev counted : (List ℕ → Bool) → Members → ℕ
counted p no_members = 0
counted p (member k d ms) = cond (p k) (length (compact_text d)) 0 + counted p ms

abbrev every : List ℕ → Bool
every k = true

cond_within : (b : Bool) (n : ℕ) → cond b n 0 ≤ n
cond_within true n = omega arith
cond_within false n = omega arith

text_within : (p : List ℕ → Bool) (later : Bool) (ms : Members) → counted p ms ≤ length (members_text later ms)
text_within p later no_members = omega arith
text_within p later (member k d ms) = at _ (compact_text d) (members_text true ms) (comma_if later) (p k) (counted p ms) (text_within p true ms) where
  at : (key value rest comma : List ℕ) (b : Bool) (n : ℕ) → n ≤ length rest → cond b (length value) 0 + n ≤ length (comma ++ (34 ∷ (key ++ 58 ∷ (value ++ rest))))
  at key value rest comma b n low =
      omega (arith, cond_within b (length value), length-append comma (34 ∷ (key ++ 58 ∷ (value ++ rest))), length-append key (58 ∷ (value ++ rest)), length-append value rest)

object_within : (p : List ℕ → Bool) (ms : Members) → counted p ms ≤ length (compact_text (object ms))
object_within p ms = omega (arith, text_within p false ms)

-- the values of five members
last_of_five : (a b c d e : List ℕ) (u v w x y : Data)
    → length (compact_text y) ≤ length (compact_text (object (member a u (member b v (member c w (member d x (member e y no_members)))))))
last_of_five a b c d e u v w x y = omega (arith, object_within every (member a u (member b v (member c w (member d x (member e y no_members))))))

second_of_five : (a b c d e : List ℕ) (u v w x y : Data)
    → length (compact_text v) ≤ length (compact_text (object (member a u (member b v (member c w (member d x (member e y no_members)))))))
second_of_five a b c d e u v w x y = omega (arith, object_within every (member a u (member b v (member c w (member d x (member e y no_members))))))

-- ---- a member is put

counted_more : (p q : List ℕ → Bool) (ms : Members) → ((l : List ℕ) → p l ≡ true → q l ≡ true) → counted p ms ≤ counted q ms
counted_more p q no_members implies = omega arith
counted_more p q (member k d ms) implies = at (p k) (q k) (implies k) (counted_more p q ms implies) where
  at : (b c : Bool) → (b ≡ true → c ≡ true) → counted p ms ≤ counted q ms → cond b (length (compact_text d)) 0 + counted p ms ≤ cond c (length (compact_text d)) 0 + counted q ms
  at false c h more = omega arith
  at true true h more = omega arith
  at true false h more = absurd (let both : false ≡ true = h refl in cc)

module _ (p q : List ℕ → Bool) (k : List ℕ) (d : Data) (is : q k ≡ true) (isnt : p k ≡ false) (implies : (l : List ℕ) → p l ≡ true → q l ≡ true) where
  put_counts : (ms : Members) → length (compact_text d) + counted p ms ≤ counted q (put k d ms)
  put_counts no_members = subst (λ (b : Bool). length (compact_text d) + 0 ≤ cond b (length (compact_text d)) 0 + 0) (sym is) (omega arith)
  put_counts (member l e ms) = at (text_order k l) refl (put_counts ms) where
    more : counted p ms ≤ counted q ms
    more = counted_more p q ms implies

    at_less : (b c : Bool) → (b ≡ true → c ≡ true) → length (compact_text d) + (cond b (length (compact_text e)) 0 + counted p ms) ≤ length (compact_text d) + (cond c (length (compact_text e)) 0 + counted q ms)
    at_less false c h = omega (arith, more)
    at_less true true h = omega (arith, more)
    at_less true false h = absurd (let both : false ≡ true = h refl in cc)

    at_greater : (b c : Bool) → (b ≡ true → c ≡ true) → length (compact_text d) + counted p ms ≤ counted q (put k d ms)
        → length (compact_text d) + (cond b (length (compact_text e)) 0 + counted p ms) ≤ cond c (length (compact_text e)) 0 + counted q (put k d ms)
    at_greater false c h later = omega (arith, later)
    at_greater true true h later = omega (arith, later)
    at_greater true false h later = absurd (let both : false ≡ true = h refl in cc)

    at : (o : Ordering) → text_order k l ≡ o → length (compact_text d) + counted p ms ≤ counted q (put k d ms)
        → length (compact_text d) + (cond (p l) (length (compact_text e)) 0 + counted p ms)
        ≤ counted q (match_ordering o (member k d (member l e ms)) (member l d ms) (member l e (put k d ms)))
    at Less o later = subst (λ (b : Bool). length (compact_text d) + (cond (p l) (length (compact_text e)) 0 + counted p ms) ≤ cond b (length (compact_text d)) 0 + (cond (q l) (length (compact_text e)) 0 + counted q ms)) (sym is)
        (at_less (p l) (q l) (implies l))
    at Equal o later =
        let same : k ≡ l = exact_texts k l o in
        let here : q l ≡ true = ap q (sym same) ∙ is in
        let gone : p l ≡ false = ap p (sym same) ∙ isnt in
        subst (λ (b : Bool). length (compact_text d) + (cond (p l) (length (compact_text e)) 0 + counted p ms) ≤ cond b (length (compact_text d)) 0 + counted q ms) (sym here)
        (subst (λ (b : Bool). length (compact_text d) + (cond b (length (compact_text e)) 0 + counted p ms) ≤ length (compact_text d) + counted q ms) (sym gone) (omega (arith, more)))
    at Greater o later = at_greater (p l) (q l) (implies l) later

-- ---- entries that are put, of which no two have one text

module _ {X : Type 0} (test : Id → Bool) (tree : X → Data) (least : X → ℕ) (within : (x : X) → least x ≤ length (compact_text (tree x))) where
  -- a key that is the text of none of some entries
  abbrev spared : List (Id × X) → List ℕ → Bool
  spared [] l = true
  spared (e ∷ es) l = cond (test e.0 && eq_by_cmp text_order l (text_of_id e.0)) false (spared es l)

  abbrev AreGood : List (Id × X) → Type 0
  AreGood = AllByRecursion (λ e. test e.0 ≡ true → InRange e.0)

  spared_more : (b c : Bool) → cond b false c ≡ true → c ≡ true
  spared_more true c e = contrary false (c ≡ true) e refl
  spared_more false c e = e

  -- the text of an id is that of no later one
  head_spared : (e : Id × X) (es : List (Id × X)) → InRange e.0 → AreGood es → T (below_all id_order e.0 es) → spared es (text_of_id e.0) ≡ true
  head_spared e [] range good above = refl
  head_spared e (x ∷ es) range good above = at (test x.0) refl (head_spared e es range good.1 (halves _ _ above).1) where
    apart : test x.0 ≡ true → eq_by_cmp text_order (text_of_id e.0) (text_of_id x.0) ≡ true → ⊥
    apart t same =
        let one : e.0 ≡ x.0 = same_id e.0 x.0 range (good.0 t) (exact_texts (text_of_id e.0) (text_of_id x.0) ((Equal-is (text_order (text_of_id e.0) (text_of_id x.0))).0 same)) in
        let tied : id_order e.0 x.0 ≡ Equal = ap (id_order e.0) (sym one) ∙ tied_itself id_order_total e.0 in
        let both : Less ≡ Equal = sym (less (id_order e.0 x.0) (halves _ _ above).0) ∙ tied in
        absurd (cc)

    at : (b : Bool) → test x.0 ≡ b → spared es (text_of_id e.0) ≡ true → cond (test x.0 && eq_by_cmp text_order (text_of_id e.0) (text_of_id x.0)) false (spared es (text_of_id e.0)) ≡ true
    at false t later = ap (λ b. cond (b && eq_by_cmp text_order (text_of_id e.0) (text_of_id x.0)) false (spared es (text_of_id e.0))) t ∙ later
    at true t later =
        ap (λ b. cond (b && eq_by_cmp text_order (text_of_id e.0) (text_of_id x.0)) false (spared es (text_of_id e.0))) t
        ∙ by_bool (eq_by_cmp text_order (text_of_id e.0) (text_of_id x.0)) (cond (eq_by_cmp text_order (text_of_id e.0) (text_of_id x.0)) false (spared es (text_of_id e.0)) ≡ true)
        (λ same. absurd (apart t same))
        (λ other. ap (λ b. cond b false (spared es (text_of_id e.0))) other ∙ later)

  entries_within : (es : List (Id × X)) (ms : Members) → T (is_sorted id_order es) → AreGood es → least_sum test least es + counted (spared es) ms ≤ counted every (put_entries test tree es ms)
  entries_within [] ms rising good = omega arith
  entries_within (e ∷ es) ms rising good = at (test e.0) refl (λ ns. entries_within es ns (halves _ _ rising).1 good.1) where
    fewer : counted (spared (e ∷ es)) ms ≤ counted (spared es) ms
    fewer = counted_more (spared (e ∷ es)) (spared es) ms (λ l. spared_more (test e.0 && eq_by_cmp text_order l (text_of_id e.0)) (spared es l))

    gone : test e.0 ≡ true → spared (e ∷ es) (text_of_id e.0) ≡ false
    gone t =
        ap (λ b. cond (b && eq_by_cmp text_order (text_of_id e.0) (text_of_id e.0)) false (spared es (text_of_id e.0))) t
        ∙ ap (λ o. cond (is_eq o) false (spared es (text_of_id e.0))) (tied_itself nat_list_cmp_total (text_of_id e.0))

    placed : test e.0 ≡ true → length (compact_text (tree e.1)) + counted (spared (e ∷ es)) ms ≤ counted (spared es) (put (text_of_id e.0) (tree e.1) ms)
    placed t = put_counts (spared (e ∷ es)) (spared es) (text_of_id e.0) (tree e.1) (head_spared e es (good.0 t) good.1 (halves _ _ rising).0) (gone t)
        (λ l. spared_more (test e.0 && eq_by_cmp text_order l (text_of_id e.0)) (spared es l)) ms

    at : (b : Bool) → test e.0 ≡ b → ((ns : Members) → least_sum test least es + counted (spared es) ns ≤ counted every (put_entries test tree es ns))
        → (cond (test e.0) (least e.1) 0 + least_sum test least es) + counted (spared (e ∷ es)) ms
        ≤ counted every (put_entries test tree es (cond (test e.0) (put (text_of_id e.0) (tree e.1) ms) ms))
    at true t later = subst (λ (b : Bool). (cond b (least e.1) 0 + least_sum test least es) + counted (spared (e ∷ es)) ms
        ≤ counted every (put_entries test tree es (cond b (put (text_of_id e.0) (tree e.1) ms) ms))) (sym t)
        (omega (arith, within e.1, placed t, later (put (text_of_id e.0) (tree e.1) ms)))
    at false t later = subst (λ (b : Bool). (cond b (least e.1) 0 + least_sum test least es) + counted (spared (e ∷ es)) ms
        ≤ counted every (put_entries test tree es (cond b (put (text_of_id e.0) (tree e.1) ms) ms))) (sym t)
        (omega (arith, fewer, later ms))

-- ---- documents

entry_least : (m : Objects) (h : Home) (o : Object) → least_body o.body ≤ length (compact_text (entry_tree m h o))
entry_least m h o = at o.body where
  at : (b : Body) → least_body b ≤ length (compact_text (body_tree m h (attributes_list o.attributes Document true) b))
  at (Group links) = omega arith
  at (Dataset stored) =
      let g = stored.grid in
      le_trans (value_least g.kind g.shape (reads g (cells_of g.shape)))
      (last_of_five (codes "attributes") (codes "creationProperties") (codes "shape") (codes "type") (codes "value")
      (attributes_list o.attributes Document true) (creation_tree g) (shape_tree g.shape Document) (type_tree g.kind) (cells_tree g))
  at (Datatype type) = omega arith

pub least_lengths : HasLeastLength
least_lengths m h range =
    let begun : Members = put_one m h kind.Dataset (h.root, empty_group) no_members in
    let put = entries_within (is_of kind.Dataset h) (entry_tree m h) (λ o. least_body o.body) (entry_least m h) (entries m) begun (entries_sorted m) range in
    let told = object_within every (put_each m h kind.Dataset (entries m) begun) in
    let inner : least_values h (entries m) ≤ length (compact_text (collection_tree m h kind.Dataset)) = omega (arith, put, told) in
    le_trans inner (second_of_five (codes "apiVersion") (codes "datasets") (codes "datatypes") (codes "groups") (codes "root")
    (string (codes "1.1.1")) (collection_tree m h kind.Dataset) (collection_tree m h kind.Datatype) (collection_tree m h kind.Group) (string (text_of_id h.root)))

-- ---- numbers that are capped

pub capped_sum : (s x c : ℕ) → min (min s c + min x c) c ≡ min (s + x) c
capped_sum s x c = omega arith

capped_more : (t c : ℕ) → min (min t c + 1) c ≡ min (1 + t) c
capped_more t c = omega arith

both_capped : (t u c : ℕ) → c ≤ t → c ≤ u → min (min t c + 1) c ≡ min u c
both_capped t u c low more = omega arith

least_or_more : (x y : ℕ) → (x < y) ⊎ (y ≤ x)
least_or_more x y = grind arith

pub capped_nested : (n s c : ℕ) → min (min (n * min (min s c + 1) c) c + 1) c ≡ min (1 + n * (s + 1)) c
capped_nested zero s c = omega arith
capped_nested (suc k) s c = at (least_or_more s c) where
  at : (s < c) ⊎ (c ≤ s) → min (min (suc k * min (min s c + 1) c) c + 1) c ≡ min (1 + suc k * (s + 1)) c
  at (inl low) =
      let one : min (min s c + 1) c ≡ s + 1 = omega arith in
      ap (λ y. min (min (suc k * y) c + 1) c) one ∙ capped_more (suc k * (s + 1)) c
  at (inr high) =
      let one : min (min s c + 1) c ≡ c = omega arith in
      ap (λ y. min (min (suc k * y) c + 1) c) one ∙ both_capped (suc k * c) (1 + suc k * (s + 1)) c (omega arith) (omega arith)
