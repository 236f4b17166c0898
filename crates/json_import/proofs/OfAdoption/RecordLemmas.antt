-- The attributes of an object that a record tells can be spelled.
use Rattle.std.proofs.Common.{◌≡◌, ℕ, ◌*◌, ◌≤◌, Bool, true, false, cond, nat_le, nat_lt, List, [], ◌∷◌, length, Option, Some, None, is_some, option_map, option_and_then, Result, Ok, Err, codes, refl, sym, ap, subst, ◌∙◌, append-nil, arith}
use Rattle.std.proofs.lemmas.Bool.{leb-true, ltb-true}
use Rattle.std.proofs.lemmas.Str.{IsUtf8-from_is_utf8}
use Rattle.std.specs.Cmp.Lexicographic.{nat_list_cmp_total}
use Rattle.std.specs.FinMap.{contains_key, empty, get, get-empty, insert, len, len-empty}
use Rattle.std.specs.List.{AllByRecursion}
use Rattle.std.specs.Str.{is_utf8}
use Rattle.std.proofs.lemmas.Option.{none-some}
use Rattle.serde_json.specs.Data.{Data, Items, Members}
use Rattle.serde_json.specs.Data as trees
use Rattle.serde_json.specs.Find.{get as find}
use Rattle.serde_json.specs.Read.{read}
use Rattle.json_trees.specs.Trees.{list_in, list_of, text_at, AreItemTexts, AreTexts}
use Rattle.json_trees.proofs.FaultLemmas.{bind_ok, test_ok}
use Rattle.containers.specs.TextMaps.Keyed.{text_order, with_values}
use Rattle.containers.proofs.TextMaps.ValueMaps.{get-values, len-values}
use Rattle.object_ids.specs.Names.{is_name}
use Rattle.object_ids.specs.Puts.{put_fault}
use Rattle.object_ids.specs.declared.ids.Kind.{Kind}
use Rattle.object_ids.specs.declared.puts.PutFault.{PutFault}
use Rattle.object_ids.proofs.PutLemmas.{insert_most}
use Rattle.hdf_types.specs.Elems.{Elem}
use Rattle.hdf_types.specs.Faults as types
use Rattle.hdf_types.specs.Reading.{size_of}
use Rattle.hdf_types.specs.Types.{IsSoundType}
use Rattle.shapes.specs.Shapes.{count_of, shape_of}
use Rattle.shapes.specs.declared.Shape.{Shape}
use Rattle.shapes.specs.declared.Shape.TheVariants.{Null, Scalar, Simple}
use Rattle.shapes.proofs.ShapeLemmas.{shape_sound, shape_told}
use Rattle.hdf_values.specs.Attributes.{Content, IsSoundAttribute, attribute_of, content, most_bytes, shape_or, sized_at, typed_at, value_or, valued_at}
use Rattle.hdf_values.specs.Nested.{AreEncoded}
use Rattle.hdf_values.specs.Shaped.{IsValue}
use Rattle.hdf_values.specs.declared.attributes.Attribute.{Attribute}
use Rattle.hdf_values.specs.declared.attributes.AttributeFault.{AttributeFault}
use Rattle.hdf_values.proofs.ExactlyLemmas.{exactly_value}
use Rattle.hdf_values.proofs.NestedLemmas.{are_encoded}
use Rattle.attributes.specs.AttributeMaps.{AreAttributes, AttributeMap, longest_name, most_attributes}
use Rattle.attributes.proofs.MapLemmas.{each_inserted}
use Rattle.object_acts.specs.declared.objects.Object.{Object}
use Rattle.object_acts.specs.Objects.{kind_of_body}
use Rattle.object_records.specs.Entries.{Entry, Kept, Names}
use Rattle.object_records.specs.Lists.{attribute_in, attributes_in, listed, name_at, no_fault, put_in}
use Rattle.object_records.specs.Objects.{kept_in, object_in, object_of_body, spelled_in}
use Rattle.chunk_owner.specs.Slots.Slots.{IsRecordOf}
use Rattle.json_import.proofs.OfAdoption.TextLemmas.{HasTexts, IfFound, ItemsHaveTexts, find_texts, found_map, found_then, texts_read}
use Rattle.containers.proofs.Plain.{ok_same}
use Rattle.groups_links.proofs.GroupLemmas.{room_left}
use Rattle.hdf_values.proofs.AttributeLemmas.{shape_ok, value_ok, typed_sound}

-- ---- one attribute

mutual
  are_texts : (d : Data) → HasTexts d → AreTexts d
  are_texts trees.null h = tt
  are_texts (trees.boolean b) h = tt
  are_texts (trees.number n) h = tt
  are_texts (trees.string s) h = h
  are_texts (trees.array ds) h = are_item_texts ds h
  are_texts (trees.object ms) h = tt

  are_item_texts : (ds : Items) → ItemsHaveTexts ds → AreItemTexts ds
  are_item_texts trees.no_items h = tt
  are_item_texts (trees.item d ds) h = (are_texts d h.0, are_item_texts ds h.1)

value_encoded : (e : Elem) (s : Shape) (d : Data) (bs : List ℕ) → IsSoundType e → IsValue e s d bs → AreEncoded e (count_of s) bs
value_encoded e Null d bs sound is = record { whole = omega (arith, ap length is.1); each = tt }
value_encoded e Scalar d bs sound is = subst (AreEncoded e 1) (append-nil _ ∙ sym is.1) (are_encoded e [] d sound is.0)
value_encoded e (Simple dims limits) d bs sound is = subst (AreEncoded e (count_of (Simple dims limits))) (sym is.1) (are_encoded e dims d sound is.0)

valued_encoded : (e : Elem) (s : Shape) (o : Option Data) (bs : List ℕ) → IsSoundType e → IfFound HasTexts o → valued_at e s o ≡ Ok bs → AreEncoded e (count_of s) bs
valued_encoded e s None bs sound h is = cc
valued_encoded e s (Some d) bs sound h is = value_encoded e s d bs sound ((exactly_value e s d bs (are_texts d h)).0 is)

-- what is read as an attribute is one
attribute_sound : (d : Data) (c : Content) → HasTexts d → attribute_of d ≡ Ok c → IsSoundAttribute c
unfolding attribute_of
attribute_sound d c texts is =
    let kind = bind_ok (typed_at (find (codes "type") d)) _ c is in
    let shape = bind_ok (shape_or (shape_of (find (codes "shape") d) None)) _ c kind.2 in
    let value = bind_ok (sized_at kind.0 shape.0 (value_or (valued_at kind.0 shape.0 (find (codes "value") d)))) _ c shape.2 in
    let sized = test_ok (nat_le (count_of shape.0 * size_of kind.0) most_bytes) (value_or (valued_at kind.0 shape.0 (find (codes "value") d))) _ value.0 value.1 in
    let sound = typed_sound (find (codes "type") d) kind.0 kind.1 in
    subst IsSoundAttribute (ok_same _ c value.2) (record {
      kind = sound;
      shape = shape_sound (find (codes "shape") d) None shape.0 (shape_told (find (codes "shape") d) None shape.0 (shape_ok _ shape.0 shape.1));
      small = leb-true (count_of shape.0 * size_of kind.0) most_bytes sized.0;
      encoded = valued_encoded kind.0 shape.0 (find (codes "value") d) value.0 sound (find_texts (codes "value") d texts) (value_ok _ value.0 sized.1);
    })

-- ---- the list of an object

abbrev IsNamed : List ℕ → Content → Type 0
IsNamed name c = is_name longest_name name ≡ true

abbrev IsSoundAt : List ℕ → Content → Type 0
IsSoundAt name c = IsSoundAttribute c

record AreNames (m : Names) : Type 0 where
  few : len m ≤ most_attributes
  named : (name : List ℕ) (c : Content) → get m name ≡ Some c → IsNamed name c
  sound : (name : List ℕ) (c : Content) → get m name ≡ Some c → IsSoundAt name c

no_names : AreNames empty
no_names = record {
  few = let none = len-empty text_order Content in omega (arith, none);
  named = λ name c is. absurd (none-some c (sym (get-empty text_order name) ∙ is));
  sound = λ name c is. absurd (none-some c (sym (get-empty text_order name) ∙ is));
}

abbrev IsGood : List ℕ × Content → Type 0
IsGood e = IsNamed e.0 e.1 × IsSoundAt e.0 e.1

content_found : (d : Data) → HasTexts d → IfFound IsSoundAttribute (no_fault (attribute_of d))
content_found d texts = at (attribute_of d) refl where
  at : (r : Result Content AttributeFault) → attribute_of d ≡ r → IfFound IsSoundAttribute (no_fault r)
  at (Ok c) is = attribute_sound d c texts is
  at (Err f) is = tt

name_found : (d : Data) → IfFound (λ name. is_name longest_name name ≡ true) (name_at (codes "name") longest_name d)
name_found d = at (text_at (codes "name") d) where
  tested : (text : List ℕ) (b : Bool) → is_name longest_name text ≡ b → IfFound (λ name. is_name longest_name name ≡ true) (cond b (Some text) None)
  tested text true is = is
  tested text false is = tt

  at : (o : Option (List ℕ)) → IfFound (λ name. is_name longest_name name ≡ true) (option_and_then (λ text. cond (is_name longest_name text) (Some text) None) o)
  at None = tt
  at (Some text) = tested text (is_name longest_name text) refl

attribute_found : (d : Data) → HasTexts d → IfFound IsGood (attribute_in d)
attribute_found d texts =
    found_then (λ name. is_name longest_name name ≡ true) IsGood _ (name_at (codes "name") longest_name d)
    (λ name good. found_map IsSoundAttribute IsGood (λ c. (name, c)) (no_fault (attribute_of d)) (λ c sound. (good, sound)) (content_found d texts)) (name_found d)

names_put : (m : Names) (e : List ℕ × Content) → AreNames m → IsGood e → put_fault most_attributes m e.0 ≡ None → AreNames (insert m e.0 e.1)
names_put m e are good none = record {
  few = insert_most most_attributes m e.0 e.1 (ltb-true (len m) most_attributes (room_left (contains_key m e.0) (nat_lt (len m) most_attributes) none));
  named = each_inserted IsNamed m e.0 e.1 good.0 are.named;
  sound = each_inserted IsSoundAt m e.0 e.1 good.1 are.sound;
}

put_found : (m : Names) (d : Data) → AreNames m → HasTexts d → IfFound AreNames (put_in most_attributes attribute_in m d)
put_found m d are texts = found_then IsGood AreNames _ (attribute_in d) (λ e good. at e good (put_fault most_attributes m e.0) refl) (attribute_found d texts) where
  at : (e : List ℕ × Content) → IsGood e → (o : Option PutFault) → put_fault most_attributes m e.0 ≡ o → IfFound AreNames (cond (is_some o) None (Some (insert m e.0 e.1)))
  at e good None is = names_put m e are good is
  at e good (Some fault) is = tt

listed_found : (ds : List Data) (m : Names) → AllByRecursion HasTexts ds → AreNames m → IfFound AreNames (listed most_attributes attribute_in m ds)
listed_found [] m texts are = are
listed_found (d ∷ ds) m texts are =
    found_then AreNames AreNames _ (put_in most_attributes attribute_in m d) (λ n more. listed_found ds n texts.1 more) (put_found m d are texts.0)

items_found : (ds : Items) → ItemsHaveTexts ds → AllByRecursion HasTexts (list_of ds)
items_found trees.no_items h = tt
items_found (trees.item d ds) h = (h.0, items_found ds h.1)

list_found : (d : Data) → HasTexts d → IfFound (AllByRecursion HasTexts) (list_in d)
list_found trees.null h = tt
list_found (trees.boolean b) h = tt
list_found (trees.number n) h = tt
list_found (trees.string s) h = tt
list_found (trees.array ds) h = items_found ds h
list_found (trees.object ms) h = tt

names_found : (o : Option Data) → IfFound HasTexts o → IfFound AreNames (attributes_in o)
names_found None h = no_names
names_found (Some d) h = found_then (AllByRecursion HasTexts) AreNames _ (list_in d) (λ ds texts. listed_found ds empty texts no_names) (list_found d h)

-- ---- the record of an object

abbrev IsEntry : Entry → Type 0
IsEntry e = AreNames e.attributes

any : (o : Option Kept) → IfFound (λ kept. Unit {0}) o
any None = tt
any (Some kept) = tt

object_found : (k : Kind) (d : Data) → HasTexts d → IfFound IsEntry (object_in k d)
object_found k d texts =
    found_then AreNames IsEntry _ (attributes_in (find (codes "attributes") d))
    (λ names are. found_map (λ kept. Unit {0}) IsEntry (λ kept. record { attributes = names; kept = kept }) (kept_in k d) (λ kept h. are) (any (kept_in k d)))
    (names_found (find (codes "attributes") d) (find_texts (codes "attributes") d texts))

spelled_found : (k : Kind) (d : Data) → HasTexts d → IfFound IsEntry (spelled_in k d)
spelled_found k trees.null texts = tt
spelled_found k (trees.boolean b) texts = tt
spelled_found k (trees.number n) texts = tt
spelled_found k (trees.string s) texts = tt
spelled_found k (trees.array ds) texts = tt
spelled_found k (trees.object ms) texts = object_found k (trees.object ms) texts

body_found : (k : Kind) (body : List ℕ) → IfFound IsEntry (object_of_body k body)
body_found k body = at (is_utf8 body) refl where
  tree : is_utf8 body ≡ true → (o : Option Data) → read body ≡ o → IfFound IsEntry (option_and_then (spelled_in k) o)
  tree utf8 None is = tt
  tree utf8 (Some d) is = spelled_found k d (texts_read body d (IsUtf8-from_is_utf8 body utf8) is)

  at : (b : Bool) → is_utf8 body ≡ b → IfFound IsEntry (cond b (option_and_then (spelled_in k) (read body)) None)
  at true utf8 = tree utf8 (read body) refl
  at false other = tt

-- what is seen of attributes tells whether they are an object's
are_attributes : (m : AttributeMap) → AreNames (with_values content m) → AreAttributes m
are_attributes m are = record {
  few = let same = len-values nat_list_cmp_total content m in omega (arith, are.few, same);
  named = λ name a is. are.named name (content a) (content_at name a is);
  sound = λ name a is. are.sound name (content a) (content_at name a is);
} where
  content_at : (name : List ℕ) (a : Attribute) → get m name ≡ Some a → get (with_values content m) name ≡ Some (content a)
  content_at name a is = get-values nat_list_cmp_total content m name ∙ ap (option_map content) is

pub attributes_told : (o : Object) (found : Option (List ℕ)) → IsRecordOf (Some o) found → AreAttributes o.attributes
attributes_told o None is = absurd (none-some _ is)
attributes_told o (Some body) is = are_attributes o.attributes (subst (IfFound IsEntry) is (body_found (kind_of_body o.body) body))
