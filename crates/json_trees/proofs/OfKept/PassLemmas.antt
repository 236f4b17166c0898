-- Passing over the tokens of values.
use Rattle.std.proofs.Common.{◌≡◌, ◌≤◌, ◌++◌, ◌∷◌, ℕ, List, [], Option, Some, None, option_map, refl, sym, ap, ◌∙◌, arith, append_assoc}
use Rattle.json.specs.Json as json
use Rattle.json.specs.Json.{after_end_array, read_key, skip_value}
use Rattle.json.specs.Reads.{token_of}
use Rattle.json.specs.declared.token.Token.{Token as Handed}
use Rattle.json.specs.declared.token.Token.TheVariants as read
use Rattle.json.specs.Token.{Token, begin_array, begin_object, bad}
use Rattle.json.specs.Tree.{json_tokens, items_tokens, members_tokens, depth, items_depth, members_depth}
use Rattle.json.proofs.Found.{Some_inj}
use Rattle.json.proofs.Printed.Trees.{value-json_tokens}
use Rattle.serde_json.specs.Read.{max_depth}
use Rattle.serde_json.specs.Data.{Data}
use Rattle.json_trees.specs.Begun.{IsValue, AreItems, AreMembers}
use Rattle.json_trees.specs.Kept.{Begins}

-- ---- one value

pub is_value : (from rest : List Token) (tree : Data) → Begins from tree rest → IsValue from rest
is_value from rest tree h = record { value = h.value; tokens = h.tokens; shallow = h.shallow }

pub value_passed : (from rest new : List Token) → IsValue from rest → skip_value json.max_depth from ≡ Some new → new ≡ rest
value_passed from rest new h e =
    let found : skip_value json.max_depth from ≡ Some rest = ap (skip_value json.max_depth) h.tokens ∙ ap (option_map (λ p. p.1)) (value-json_tokens h.value json.max_depth rest (omega (arith, h.shallow))) in
    Some_inj new rest (sym e ∙ found)

-- ---- the items of an array

-- no value begins with a closing bracket
pub not_end : (j : json.Json) (rest : List Token) → after_end_array (json_tokens j ++ rest) ≡ None
not_end json.null rest = refl
not_end (json.boolean b) rest = refl
not_end (json.number s) rest = refl
not_end (json.string s) rest = refl
not_end (json.array js) rest = refl
not_end (json.object ms) rest = refl

pub item_begins : (j : json.Json) (js : json.Items) (rest : List Token) → items_tokens (json.item j js) ++ rest ≡ json_tokens j ++ (items_tokens js ++ rest)
item_begins j js rest = append_assoc (json_tokens j) (items_tokens js) rest

items_over : (js : json.Items) (rest r : List Token) → after_end_array (items_tokens js ++ rest) ≡ Some r → r ≡ rest
items_over json.no_items rest r e = Some_inj r rest (sym e)
items_over (json.item j js) rest r e =
    let none = ap after_end_array (item_begins j js rest) ∙ not_end j (items_tokens js ++ rest) in
    absurd (cc)

pub items_passed : (from rest r : List Token) → AreItems from rest → after_end_array from ≡ Some r → r ≡ rest
items_passed from rest r h e = items_over h.items rest r (ap after_end_array (sym h.tokens) ∙ e)

-- an item comes next, and others behind it
pub record AnItem (from rest : List Token) : Type 0 where
  pub mid : List Token
  pub first : IsValue from mid
  pub others : AreItems mid rest

items_more : (from rest : List Token) (js : json.Items) → from ≡ items_tokens js ++ rest → items_depth js ≤ max_depth → after_end_array from ≡ None → AnItem from rest
items_more from rest json.no_items is shallow going = let closed : after_end_array from ≡ Some rest = ap after_end_array is in absurd (cc)
items_more from rest (json.item j js) is shallow going = record {
  mid = items_tokens js ++ rest;
  first = record { value = j; tokens = is ∙ item_begins j js rest; shallow = omega (arith, shallow) };
  others = record { items = js; tokens = refl; shallow = omega (arith, shallow) };
}

pub an_item : (from rest : List Token) → AreItems from rest → after_end_array from ≡ None → AnItem from rest
an_item from rest h going = items_more from rest h.items h.tokens h.shallow going

-- ---- the members of an object

pub found_inj : (p q : Option (List ℕ) × List Token) → Some p ≡ Some q → (p.0 ≡ q.0) × (p.1 ≡ q.1)
found_inj p q e = let same = Some_inj p q e in (ap (λ x. x.0) same, ap (λ x. x.1) same)

members_over : (from rest r : List Token) (ms : json.Members) → from ≡ members_tokens ms ++ rest → read_key from ≡ Some (None, r) → r ≡ rest
members_over from rest r json.no_members is e = (found_inj (None, r) (None, rest) (sym e ∙ ap read_key is)).1
members_over from rest r (json.member k j ms) is e = let named = (found_inj (None, r) (Some k, (json_tokens j ++ members_tokens ms) ++ rest) (sym e ∙ ap read_key is)).0 in absurd (cc)

pub members_passed : (from rest r : List Token) → AreMembers from rest → read_key from ≡ Some (None, r) → r ≡ rest
members_passed from rest r h e = members_over from rest r h.members h.tokens e

-- a value comes behind a key, and other members behind it
pub record AMember (from rest : List Token) : Type 0 where
  pub mid : List Token
  pub first : IsValue from mid
  pub others : AreMembers mid rest

members_more : (from s rest : List Token) (k : List ℕ) (ms : json.Members) → from ≡ members_tokens ms ++ rest → members_depth ms ≤ max_depth → read_key from ≡ Some (Some k, s) → AMember s rest
members_more from s rest k json.no_members is shallow e = let closed = (found_inj (Some k, s) (None, rest) (sym e ∙ ap read_key is)).0 in absurd (cc)
members_more from s rest k (json.member l j ms) is shallow e = record {
  mid = members_tokens ms ++ rest;
  first = record { value = j; tokens = (found_inj (Some k, s) (Some l, (json_tokens j ++ members_tokens ms) ++ rest) (sym e ∙ ap read_key is)).1 ∙ append_assoc (json_tokens j) (members_tokens ms) rest; shallow = omega (arith, shallow) };
  others = record { members = ms; tokens = refl; shallow = omega (arith, shallow) };
}

pub a_member : (from s rest : List Token) (k : List ℕ) → AreMembers from rest → read_key from ≡ Some (Some k, s) → AMember s rest
a_member from s rest k h e = members_more from s rest k h.members h.tokens h.shallow e

-- ---- behind the first token

tail : List Token → List Token
tail [] = []
tail (t ∷ ts) = ts

array_opened : (ts rest : List Token) (j : json.Json) → begin_array ∷ ts ≡ json_tokens j ++ rest → depth j ≤ max_depth → AreItems ts rest
unfolding tail
array_opened ts rest json.null e s = absurd (cc)
array_opened ts rest (json.boolean b) e s = absurd (cc)
array_opened ts rest (json.number x) e s = absurd (cc)
array_opened ts rest (json.string x) e s = absurd (cc)
array_opened ts rest (json.array js) e s = record { items = js; tokens = ap tail e; shallow = omega (arith, s) }
array_opened ts rest (json.object ms) e s = absurd (cc)

pub array_rest : (ts rest : List Token) → IsValue (begin_array ∷ ts) rest → AreItems ts rest
array_rest ts rest h = array_opened ts rest h.value h.tokens h.shallow

object_opened : (ts rest : List Token) (j : json.Json) → begin_object ∷ ts ≡ json_tokens j ++ rest → depth j ≤ max_depth → AreMembers ts rest
unfolding tail
object_opened ts rest json.null e s = absurd (cc)
object_opened ts rest (json.boolean b) e s = absurd (cc)
object_opened ts rest (json.number x) e s = absurd (cc)
object_opened ts rest (json.string x) e s = absurd (cc)
object_opened ts rest (json.array js) e s = absurd (cc)
object_opened ts rest (json.object ms) e s = record { members = ms; tokens = ap tail e; shallow = omega (arith, s) }

pub object_rest : (ts rest : List Token) → IsValue (begin_object ∷ ts) rest → AreMembers ts rest
object_rest ts rest h = object_opened ts rest h.value h.tokens h.shallow

-- the first token, where there is one
first_or : Token → List Token → Token
first_or d [] = d
first_or d (t ∷ ts) = t

one_token : (t : Token) (ts rest : List Token) (j : json.Json) → (t ≡ begin_array → ⊥) → (t ≡ begin_object → ⊥) → t ∷ ts ≡ json_tokens j ++ rest → ts ≡ rest
unfolding tail first_or
one_token t ts rest json.null a o e = ap tail e
one_token t ts rest (json.boolean b) a o e = ap tail e
one_token t ts rest (json.number x) a o e = ap tail e
one_token t ts rest (json.string x) a o e = ap tail e
one_token t ts rest (json.array js) a o e = absurd (a (ap (first_or bad) e))
one_token t ts rest (json.object ms) a o e = absurd (o (ap (first_or bad) e))

pub leaf_rest : (t : Token) (ts rest : List Token) → (t ≡ begin_array → ⊥) → (t ≡ begin_object → ⊥) → IsValue (t ∷ ts) rest → ts ≡ rest
leaf_rest t ts rest a o h = one_token t ts rest h.value a o h.tokens

-- the tokens of `src`
pub no_array : (t : Handed) → (t ≡ read.BeginArray → ⊥) → token_of t ≡ begin_array → ⊥
no_array read.BeginObject h e = cc
no_array read.EndObject h e = cc
no_array read.BeginArray h e = h refl
no_array read.EndArray h e = cc
no_array (read.Key s) h e = cc
no_array (read.String s) h e = cc
no_array (read.Number s) h e = cc
no_array (read.Bool b) h e = cc
no_array read.Null h e = cc
no_array read.Bad h e = cc

pub no_object : (t : Handed) → (t ≡ read.BeginObject → ⊥) → token_of t ≡ begin_object → ⊥
no_object read.BeginObject h e = h refl
no_object read.EndObject h e = cc
no_object read.BeginArray h e = cc
no_object read.EndArray h e = cc
no_object (read.Key s) h e = cc
no_object (read.String s) h e = cc
no_object (read.Number s) h e = cc
no_object (read.Bool b) h e = cc
no_object read.Null h e = cc
no_object read.Bad h e = cc
