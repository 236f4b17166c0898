-- Values that were read, built up from their parts.
use Rattle.std.proofs.Common.{◌≡◌, ◌<◌, ◌-◌, ◌++◌, ◌∷◌, ℕ, List, [], length, Some, None, option_map, option_and_then, refl, sym, ap, ◌∙◌, arith, append_assoc, length-append}
use Rattle.json.specs.Json as json
use Rattle.json.specs.Json.{after_end_array, read_key}
use Rattle.json.specs.Token.{Token, begin_array, begin_object, key}
use Rattle.json.specs.Tree.{json_tokens, items_tokens, members_tokens, depth}
use Rattle.json.proofs.Grammar.{closed_array, read_key_is}
use Rattle.json.proofs.Printed.Trees.{value-json_tokens}
use Rattle.serde_json.specs.Data.{Data, array, object, Items, no_items, item, no_members, put}
use Rattle.serde_json.specs.Read.{converted, of_json, of_items, of_members}
use Rattle.json_trees.specs.Copied.{Reads, ReadsItems, ReadsMembers}

-- a value of one token
abbrev pub one_read : (most : ℕ) (j : json.Json) (d : Data) (t : Token) (from rest : List Token) → json_tokens j ≡ t ∷ [] → depth j ≡ 0 → of_json j ≡ Some d → from ≡ t ∷ rest → Reads most from d rest
one_read most j d t from rest is flat reads first = record {
  value = j;
  tokens = first ∙ ap (λ ts. ts ++ rest) (sym is);
  shallow = omega (arith, flat);
  reads = reads;
}

abbrev pub array_read : (most : ℕ) (from next rest : List Token) (trees : Items) → 0 < most → from ≡ begin_array ∷ next → ReadsItems (most - 1) next trees rest → Reads most from (array trees) rest
array_read most from next rest trees some first h = record {
  value = json.array h.items;
  tokens = first ∙ ap (λ ts. begin_array ∷ ts) h.tokens;
  shallow = omega (arith, h.shallow, some);
  reads = ap (option_map array) h.reads;
}

abbrev pub object_read : (most : ℕ) (from next rest : List Token) → 0 < most → from ≡ begin_object ∷ next → (h : ReadsMembers (most - 1) next rest) → Reads most from (object (h.reads no_members).0) rest
object_read most from next rest some first h = record {
  value = json.object h.members;
  tokens = first ∙ ap (λ ts. begin_object ∷ ts) h.tokens;
  shallow = omega (arith, h.shallow, some);
  reads = ap (option_map object) (h.reads no_members).1;
}

abbrev pub items_ended : (most : ℕ) (from rest : List Token) → after_end_array from ≡ Some rest → ReadsItems most from no_items rest
items_ended most from rest e = record { items = json.no_items; tokens = closed_array from rest e; shallow = omega arith; reads = refl }

abbrev pub item_before : (most : ℕ) (from mid rest : List Token) (tree : Data) (trees : Items) → Reads most from tree mid → ReadsItems most mid trees rest → ReadsItems most from (item tree trees) rest
item_before most from mid rest tree trees h k = record {
  items = json.item h.value k.items;
  tokens = h.tokens ∙ ap (λ ts. json_tokens h.value ++ ts) k.tokens ∙ sym (append_assoc (json_tokens h.value) (items_tokens k.items) rest);
  shallow = omega (arith, h.shallow, k.shallow);
  reads = ap (option_and_then (λ d. option_map (item d) (of_items k.items))) h.reads ∙ ap (option_map (item tree)) k.reads;
}

abbrev pub members_ended : (most : ℕ) (from rest : List Token) → read_key from ≡ Some (None, rest) → ReadsMembers most from rest
members_ended most from rest e = record { members = json.no_members; tokens = read_key_is from None rest e; shallow = omega arith; reads = λ before. (before, refl) }

abbrev pub member_before : (most : ℕ) (name : List ℕ) (from next mid rest : List Token) (tree : Data) → read_key from ≡ Some (Some name, next) → Reads most next tree mid → ReadsMembers most mid rest → ReadsMembers most from rest
member_before most name from next mid rest tree e h k = record {
  members = json.member name h.value k.members;
  tokens = read_key_is from (Some name) next e ∙ ap (λ ts. key name ∷ ts) (h.tokens ∙ ap (λ ts. json_tokens h.value ++ ts) k.tokens ∙ sym (append_assoc (json_tokens h.value) (members_tokens k.members) rest));
  shallow = omega (arith, h.shallow, k.shallow);
  reads = λ before. let m = k.reads (put name tree before) in (m.0, ap (option_and_then (λ d. of_members k.members (put name d before))) h.reads ∙ m.1);
}

some_token : (j : json.Json) → 0 < length (json_tokens j)
some_token json.null = omega arith
some_token (json.boolean b) = omega arith
some_token (json.number s) = omega arith
some_token (json.string s) = omega arith
some_token (json.array js) = omega arith
some_token (json.object ms) = omega arith

pub read_shorter : (most : ℕ) (from rest : List Token) (tree : Data) → Reads most from tree rest → length rest < length from
read_shorter most from rest tree h = omega (arith, ap length h.tokens, length-append (json_tokens h.value) rest, some_token h.value)

-- ---- the grammar reads what was read

pub read_found : (most : ℕ) (from rest : List Token) (tree : Data) → (h : Reads most from tree rest) → json.value most from ≡ Some (h.value, rest)
read_found most from rest tree h = ap (json.value most) h.tokens ∙ value-json_tokens h.value most rest h.shallow

pub read_converted : (most : ℕ) (from rest : List Token) (tree : Data) → Reads most from tree rest → converted of_json (json.value most from) ≡ Some (tree, rest)
read_converted most from rest tree h = ap (converted of_json) (read_found most from rest tree h) ∙ ap (option_map (λ d. (d, rest))) h.reads
