-- The text of a tree of whole numbers and texts reads as the tree.
use Rattle.std.proofs.Common.{◌≡◌, ◌<◌, ◌≤◌, ◌≤ℤ◌, ◌^◌, ◌-◌, ◌*◌, ◌++◌, ◌∷◌, ℕ, suc, ℤ, pos, negsuc, max, List, [], map, take, drop, Some, option_map, option_and_then, refl, sym, ap, ap₂, subst, inl, inr, ◌∙◌, arith, append-nil}
use Rattle.std.specs.List.{AllByRecursion}
use Rattle.std.proofs.lemmas.Int.{ints}
use Rattle.json.specs.Json as json
use Rattle.json.specs.Lex.{tokens}
use Rattle.json.specs.Print.{print, IsNumber}
use Rattle.json.specs.Tree.{json_tokens, HasNumbers, ItemsHaveNumbers}
use Rattle.json.specs.Tree as tree
use Rattle.json.proofs.Printed.Decimals.{IsNumber-decimal, IsNumber-signed_decimal}
use Rattle.json.proofs.Printed.Tokens.{tokens-print}
use Rattle.json.proofs.Printed.Trees.{value-json_tokens, ArePrintable-json_tokens}
use Rattle.serde_json.specs.Data.{Num, unsigned, negative, float, Data, null, boolean, number, string, array, object, Items, no_items, item, no_members, member, depth, items_depth}
use Rattle.serde_json.specs.Find.{of_integer}
use Rattle.serde_json.specs.Read.{read, max_depth, number_of, of_json, of_items}
use Rattle.serde_json.specs.View.{items_of}
use Rattle.serde_json.specs.Written.{number_text, outline, items_outline, compact_text}
use Rattle.serde_json.proofs.Numbers.{number_of-decimal, number_of-negative}
use Rattle.serde_json.proofs.Texts.{print-outline}
use Rattle.hdf_types.specs.declared.IntType.{IntType}
use Rattle.hdf_types.specs.Elems.{Elem, int, text, compound, FieldList, no_fields, field}
use Rattle.hdf_types.specs.Reading.{size_of}
use Rattle.hdf_types.specs.Types.{IsWidth, IsFormed, AreFormed}
use Rattle.shapes.specs.RowMajor.{cell_count}
use Rattle.hdf_values.specs.Integers.{int_bytes, int_value}
use Rattle.hdf_values.specs.Elements.{IsEncoded, AreEncodedFields, decoded, fields_decoded}
use Rattle.hdf_values.specs.Nested.{AreEncoded, pieces, nested_decoded}
use Rattle.hdf_values.proofs.EncodedLemmas.{compound_encoded, first_encoded}
use Rattle.hdf_values.proofs.IntegerLemmas.{range_read, width_told, value-bytes}
use Rattle.hdf_values.proofs.PieceLemmas.{each_encoded, one_encoded}
use Rattle.std.specs.Option.{option_map_or}

-- ---- trees whose numbers are whole and fit 64 bits, and that have no object

abbrev pub IsWhole : Num → Type 0
IsWhole (unsigned n) = n < 2 ^ 64
IsWhole (negative (pos n)) = ⊥
IsWhole (negative (negsuc n)) = n < 2 ^ 63
IsWhole (float x) = ⊥

abbrev mutual
  pub HasWhole : Data → Type 0
  HasWhole null = Unit {0}
  HasWhole (boolean b) = Unit {0}
  HasWhole (number n) = IsWhole n
  HasWhole (string s) = Unit {0}
  HasWhole (array ds) = HaveWhole ds
  HasWhole (object ms) = ⊥

  pub HaveWhole : Items → Type 0
  HaveWhole no_items = Unit {0}
  HaveWhole (item d ds) = HasWhole d × HaveWhole ds

number_read : (n : Num) → IsWhole n → number_of (number_text n) ≡ Some n
number_read (unsigned n) h = number_of-decimal n h
number_read (negative (pos n)) h = absurd h
number_read (negative (negsuc n)) h = number_of-negative n h
number_read (float x) h = absurd h

number_printed : (n : Num) → IsWhole n → IsNumber (number_text n)
number_printed (unsigned n) h = IsNumber-decimal n h
number_printed (negative (pos n)) h = absurd h
number_printed (negative (negsuc n)) h = IsNumber-signed_decimal (negsuc n) h
number_printed (float x) h = absurd h

mutual
  pub outline_read : (d : Data) → HasWhole d → of_json (outline d) ≡ Some d
  outline_read null h = refl
  outline_read (boolean b) h = refl
  outline_read (number n) h = ap (option_map number) (number_read n h)
  outline_read (string s) h = refl
  outline_read (array ds) h = ap (option_map array) (items_read ds h)
  outline_read (object ms) h = absurd h

  items_read : (ds : Items) → HaveWhole ds → of_items (items_outline ds) ≡ Some ds
  items_read no_items h = refl
  items_read (item d ds) h = ap (option_and_then (λ x. option_map (item x) (of_items (items_outline ds)))) (outline_read d h.0) ∙ ap (option_map (item d)) (items_read ds h.1)

mutual
  pub outline_depth : (d : Data) → HasWhole d → tree.depth (outline d) ≡ depth d
  outline_depth null h = refl
  outline_depth (boolean b) h = refl
  outline_depth (number n) h = refl
  outline_depth (string s) h = refl
  outline_depth (array ds) h = ap suc (items_outline_depth ds h)
  outline_depth (object ms) h = absurd h

  items_outline_depth : (ds : Items) → HaveWhole ds → tree.items_depth (items_outline ds) ≡ items_depth ds
  items_outline_depth no_items h = refl
  items_outline_depth (item d ds) h = ap₂ max (outline_depth d h.0) (items_outline_depth ds h.1)

mutual
  pub outline_printed : (d : Data) → HasWhole d → HasNumbers (outline d)
  outline_printed null h = tt
  outline_printed (boolean b) h = tt
  outline_printed (number n) h = number_printed n h
  outline_printed (string s) h = tt
  outline_printed (array ds) h = items_printed ds h
  outline_printed (object ms) h = absurd h

  items_printed : (ds : Items) → HaveWhole ds → ItemsHaveNumbers (items_outline ds)
  items_printed no_items h = tt
  items_printed (item d ds) h = (outline_printed d h.0, items_printed ds h.1)

-- ---- the text

outlined_read : (d : Data) (j : json.Json) → outline d ≡ j → HasNumbers j → tree.depth j ≤ max_depth → of_json j ≡ Some d → read (compact_text d) ≡ Some d
outlined_read d j is numbers shallow reads =
    let text : compact_text d ≡ print (json_tokens j) = sym (print-outline d) ∙ ap (λ k. print (json_tokens k)) is in
    let found : tokens (compact_text d) ≡ json_tokens j ++ [] = ap tokens text ∙ tokens-print (json_tokens j) (ArePrintable-json_tokens j numbers) ∙ sym (append-nil (json_tokens j)) in
    ap (λ ts. option_and_then of_json (option_and_then (λ p. json.if_last p.0 p.1) (json.value max_depth ts))) found
    ∙ ap (λ v. option_and_then of_json (option_and_then (λ p. json.if_last p.0 p.1) v)) (value-json_tokens j max_depth [] shallow)
    ∙ reads

pub text_read : (d : Data) → HasWhole d → depth d ≤ max_depth → read (compact_text d) ≡ Some d
text_read d h shallow = outlined_read d (outline d) refl (outline_printed d h) (omega (arith, outline_depth d h)) (outline_read d h)

-- the same of an object with one key
pub keyed_text_read : (k : List ℕ) (d : Data) → HasWhole d → depth (object (member k d no_members)) ≤ max_depth → read (compact_text (object (member k d no_members))) ≡ Some (object (member k d no_members))
keyed_text_read k d h shallow =
    outlined_read (object (member k d no_members)) (json.object (json.member k (outline d) json.no_members)) refl (outline_printed d h, tt) (omega (arith, outline_depth d h))
    (ap (λ o. option_map object (option_and_then (λ x. Some (member k x no_members)) o)) (outline_read d h))

-- ---- the trees of bytes are such

width_cap : (bits : ℕ) → IsWidth bits → (2 ^ bits ≤ 2 ^ 64) × (2 ^ (bits - 1) ≤ 2 ^ 63)
width_cap bits (inl e) = rw e (omega arith, omega arith)
width_cap bits (inr (inl e)) = rw e (omega arith, omega arith)
width_cap bits (inr (inr (inl e))) = rw e (omega arith, omega arith)
width_cap bits (inr (inr (inr e))) = rw e (omega arith, omega arith)

within_is_whole : (bits : ℕ) (z : ℤ) → IsWidth bits → negsuc (2 ^ (bits - 1) - 1) ≤ℤ z → z ≤ℤ pos (2 ^ bits - 1) → IsWhole (of_integer z)
within_is_whole bits (pos n) w low high = omega (arith, ints, width_cap bits w)
within_is_whole bits (negsuc n) w low high = omega (arith, ints, width_cap bits w)

int_whole : (t : IntType) (bs : List ℕ) → IsWidth t.bits → IsEncoded (int t) bs → IsWhole (of_integer (int_value t bs))
int_whole t bs w h =
    let z = h.1.0 in
    let bytes : int_bytes t h.1.0 ≡ bs = sym (ap (λ o. option_map_or (int_bytes t) o []) h.1.1) ∙ h.2 in
    let same : int_value t bs ≡ h.1.0 = ap (int_value t) (sym bytes) ∙ value-bytes t z w h.1.2 in
    let within = width_told t z w (range_read t z h.1.2) in
    subst (λ y. IsWhole (of_integer y)) (sym same) (within_is_whole t.bits z w within.0 within.1)

mutual
  pub decoded_whole : (e : Elem) (bs : List ℕ) → IsFormed e → IsEncoded e bs → HasWhole (decoded e bs)
  decoded_whole (int t) bs w h = int_whole t bs w h
  decoded_whole (text t) bs w h = tt
  decoded_whole (compound fs) bs w h = fields_whole fs bs w.3 ((compound_encoded fs bs).0 h)

  fields_whole : (fs : FieldList) (bs : List ℕ) → AreFormed fs → AreEncodedFields fs bs → HaveWhole (items_of (fields_decoded fs bs))
  fields_whole no_fields bs w h = tt
  fields_whole (field n e rest) bs w h =
      let parts = first_encoded (field n e rest) n e rest bs refl w h in
      (decoded_whole e (take (size_of e) bs) w.2 parts.first, fields_whole rest (drop (size_of e) bs) w.3 parts.later)

all_whole : (F : List ℕ → Type 0) (dec : List ℕ → Data) → ((bs : List ℕ) → F bs → HasWhole (dec bs)) → (ps : List (List ℕ)) → AllByRecursion F ps → HaveWhole (items_of (map dec ps))
all_whole F dec each [] h = tt
all_whole F dec each (p ∷ ps) h = (each p h.0, all_whole F dec each ps h.1)

pub nested_whole : (e : Elem) (dims bs : List ℕ) → IsFormed e → AreEncoded e (cell_count dims) bs → HasWhole (nested_decoded e dims bs)
nested_whole e [] bs w h = decoded_whole e bs w (one_encoded e bs h)
nested_whole e (n ∷ ns) bs w h = all_whole (AreEncoded e (cell_count ns)) (nested_decoded e ns) (λ p k. nested_whole e ns p w k) (pieces n (cell_count ns * size_of e) bs) (each_encoded e (cell_count ns) n bs h)
