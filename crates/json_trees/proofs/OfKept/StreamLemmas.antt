-- Values that begin with a token, the trees that they read as, and the items of a list, one after another.
use Rattle.std.proofs.Common.{◌≡◌, ◌≤◌, ◌++◌, ◌∷◌, ℕ, List, [], Option, Some, None, option_map, option_and_then, refl, sym, ap, subst, ◌∙◌, arith}
use Rattle.std.specs.Borrow.{Bor}
use Rattle.json.specs.Json as json
use Rattle.json.specs.Json.{after_end_array}
use Rattle.json.specs.Reads.{token_of}
use Rattle.json.specs.declared.token.Token.{Token as Handed}
use Rattle.json.specs.declared.token.Token.TheVariants as read
use Rattle.json.specs.Token.{Token, begin_array, number as number_token, string as string_token, bad}
use Rattle.json.specs.Tree.{json_tokens, items_tokens, depth, items_depth}
use Rattle.json.proofs.Found.{Some_inj}
use Rattle.serde_json.specs.Data.{Data, Num, null, boolean, number, string, array, object, Items, no_items, item, Members, no_members}
use Rattle.serde_json.specs.Find.{as_number, as_str}
use Rattle.serde_json.specs.Read.{max_depth, number_of, of_json, of_items, of_members}
use Rattle.json_trees.specs.Trees.{list_in, list_of}
use Rattle.json_trees.specs.Kept.{Begins}
use Rattle.json_trees.specs.Begun.{AreTrees}
use Rattle.json_trees.proofs.OfKept.PassLemmas.{not_end, item_begins}

-- ---- what begins with a token

tail : List Token → List Token
tail [] = []
tail (t ∷ ts) = ts

first_or : Token → List Token → Token
first_or d [] = d
first_or d (t ∷ ts) = t

number_in : Token → List ℕ
number_in (number_token s) = s
number_in t = []

string_in : Token → List ℕ
string_in (string_token s) = s
string_in t = []

-- a list
pub record AList (ts : List Token) (tree : Data) (rest : List Token) : Type 0 where
  pub trees : Items
  pub is : tree ≡ array trees
  pub items : AreTrees ts trees rest

items_found : (ts rest : List Token) (tree : Data) (js : json.Items) (found : Option Items) → of_items js ≡ found → option_map array found ≡ Some tree → ts ≡ items_tokens js ++ rest → items_depth js ≤ max_depth → AList ts tree rest
items_found ts rest tree js None e r is shallow = absurd (cc)
items_found ts rest tree js (Some ds) e r is shallow = record { trees = ds; is = Some_inj tree (array ds) (sym r); items = record { items = js; tokens = is; shallow = shallow; reads = e } }

list_begun : (ts rest : List Token) (tree : Data) (j : json.Json) → begin_array ∷ ts ≡ json_tokens j ++ rest → depth j ≤ max_depth → of_json j ≡ Some tree → AList ts tree rest
unfolding tail
list_begun ts rest tree json.null e s r = absurd (cc)
list_begun ts rest tree (json.boolean b) e s r = absurd (cc)
list_begun ts rest tree (json.number x) e s r = absurd (cc)
list_begun ts rest tree (json.string x) e s r = absurd (cc)
list_begun ts rest tree (json.array js) e s r = items_found ts rest tree js (of_items js) refl r (ap tail e) (omega (arith, s))
list_begun ts rest tree (json.object ms) e s r = absurd (cc)

pub a_list : (ts rest : List Token) (tree : Data) → Begins (begin_array ∷ ts) tree rest → AList ts tree rest
a_list ts rest tree h = list_begun ts rest tree h.value h.tokens h.shallow h.reads

-- a number
number_found : (s t : List ℕ) (tree : Data) (n : Option Num) → s ≡ t → number_of t ≡ n → option_map number n ≡ Some tree → (x : Num) × (number_of s ≡ Some x) × (tree ≡ number x)
number_found s t tree None is e r = absurd (cc)
number_found s t tree (Some x) is e r = (x, ap number_of is ∙ e, Some_inj tree (number x) (sym r))

number_begun : (s : List ℕ) (ts rest : List Token) (tree : Data) (j : json.Json) → number_token s ∷ ts ≡ json_tokens j ++ rest → of_json j ≡ Some tree → (ts ≡ rest) × ((x : Num) × (number_of s ≡ Some x) × (tree ≡ number x))
unfolding tail first_or number_in
number_begun s ts rest tree json.null e r = absurd (cc)
number_begun s ts rest tree (json.boolean b) e r = absurd (cc)
number_begun s ts rest tree (json.number x) e r = (ap tail e, number_found s x tree (number_of x) (ap (λ l. number_in (first_or bad l)) e) refl r)
number_begun s ts rest tree (json.string x) e r = absurd (cc)
number_begun s ts rest tree (json.array js) e r = absurd (cc)
number_begun s ts rest tree (json.object ms) e r = absurd (cc)

pub a_number : (s : List ℕ) (ts rest : List Token) (tree : Data) → Begins (number_token s ∷ ts) tree rest → (ts ≡ rest) × ((x : Num) × (number_of s ≡ Some x) × (tree ≡ number x))
a_number s ts rest tree h = number_begun s ts rest tree h.value h.tokens h.reads

-- a text
string_begun : (s : List ℕ) (ts rest : List Token) (tree : Data) (j : json.Json) → string_token s ∷ ts ≡ json_tokens j ++ rest → of_json j ≡ Some tree → (ts ≡ rest) × (tree ≡ string s)
unfolding tail first_or string_in
string_begun s ts rest tree json.null e r = absurd (cc)
string_begun s ts rest tree (json.boolean b) e r = absurd (cc)
string_begun s ts rest tree (json.number x) e r = absurd (cc)
string_begun s ts rest tree (json.string x) e r = (ap tail e, Some_inj tree (string x) (sym r) ∙ ap string (sym (ap (λ l. string_in (first_or bad l)) e)))
string_begun s ts rest tree (json.array js) e r = absurd (cc)
string_begun s ts rest tree (json.object ms) e r = absurd (cc)

pub a_string : (s : List ℕ) (ts rest : List Token) (tree : Data) → Begins (string_token s ∷ ts) tree rest → (ts ≡ rest) × (tree ≡ string s)
a_string s ts rest tree h = string_begun s ts rest tree h.value h.tokens h.reads

-- another tree than a list
no_list_found : (o : Option Members) (tree : Data) → option_map object o ≡ Some tree → list_in tree ≡ None
no_list_found None tree e = absurd (cc)
no_list_found (Some ms) tree e = ap list_in (Some_inj tree (object ms) (sym e))

no_list_number : (o : Option Num) (tree : Data) → option_map number o ≡ Some tree → list_in tree ≡ None
no_list_number None tree e = absurd (cc)
no_list_number (Some n) tree e = ap list_in (Some_inj tree (number n) (sym e))

other_list : (t : Token) (ts rest : List Token) (tree : Data) (j : json.Json) → (t ≡ begin_array → ⊥) → t ∷ ts ≡ json_tokens j ++ rest → of_json j ≡ Some tree → list_in tree ≡ None
unfolding first_or
other_list t ts rest tree json.null other e r = ap list_in (Some_inj tree null (sym r))
other_list t ts rest tree (json.boolean b) other e r = ap list_in (Some_inj tree (boolean b) (sym r))
other_list t ts rest tree (json.number x) other e r = no_list_number (number_of x) tree r
other_list t ts rest tree (json.string x) other e r = ap list_in (Some_inj tree (string x) (sym r))
other_list t ts rest tree (json.array js) other e r = absurd (other (ap (first_or bad) e))
other_list t ts rest tree (json.object ms) other e r = no_list_found (of_members ms no_members) tree r

pub no_list : (t : Token) (ts rest : List Token) (tree : Data) → (t ≡ begin_array → ⊥) → Begins (t ∷ ts) tree rest → list_in tree ≡ None
no_list t ts rest tree other h = other_list t ts rest tree h.value other h.tokens h.reads

-- another tree than a number
no_number_items : (o : Option Items) (tree : Data) → option_map array o ≡ Some tree → as_number tree ≡ None
no_number_items None tree e = absurd (cc)
no_number_items (Some ds) tree e = ap as_number (Some_inj tree (array ds) (sym e))

no_number_members : (o : Option Members) (tree : Data) → option_map object o ≡ Some tree → as_number tree ≡ None
no_number_members None tree e = absurd (cc)
no_number_members (Some ms) tree e = ap as_number (Some_inj tree (object ms) (sym e))

other_number : (t : Token) (ts rest : List Token) (tree : Data) (j : json.Json) → ((s : List ℕ) → t ≡ number_token s → ⊥) → t ∷ ts ≡ json_tokens j ++ rest → of_json j ≡ Some tree → as_number tree ≡ None
unfolding first_or
other_number t ts rest tree json.null other e r = ap as_number (Some_inj tree null (sym r))
other_number t ts rest tree (json.boolean b) other e r = ap as_number (Some_inj tree (boolean b) (sym r))
other_number t ts rest tree (json.number x) other e r = absurd (other x (ap (first_or bad) e))
other_number t ts rest tree (json.string x) other e r = ap as_number (Some_inj tree (string x) (sym r))
other_number t ts rest tree (json.array js) other e r = no_number_items (of_items js) tree r
other_number t ts rest tree (json.object ms) other e r = no_number_members (of_members ms no_members) tree r

pub no_number : (t : Token) (ts rest : List Token) (tree : Data) → ((s : List ℕ) → t ≡ number_token s → ⊥) → Begins (t ∷ ts) tree rest → as_number tree ≡ None
no_number t ts rest tree other h = other_number t ts rest tree h.value other h.tokens h.reads

-- another tree than a text
no_text_number : (o : Option Num) (tree : Data) → option_map number o ≡ Some tree → as_str tree ≡ None
no_text_number None tree e = absurd (cc)
no_text_number (Some n) tree e = ap as_str (Some_inj tree (number n) (sym e))

no_text_items : (o : Option Items) (tree : Data) → option_map array o ≡ Some tree → as_str tree ≡ None
no_text_items None tree e = absurd (cc)
no_text_items (Some ds) tree e = ap as_str (Some_inj tree (array ds) (sym e))

no_text_members : (o : Option Members) (tree : Data) → option_map object o ≡ Some tree → as_str tree ≡ None
no_text_members None tree e = absurd (cc)
no_text_members (Some ms) tree e = ap as_str (Some_inj tree (object ms) (sym e))

other_text : (t : Token) (ts rest : List Token) (tree : Data) (j : json.Json) → ((s : List ℕ) → t ≡ string_token s → ⊥) → t ∷ ts ≡ json_tokens j ++ rest → of_json j ≡ Some tree → as_str tree ≡ None
unfolding first_or
other_text t ts rest tree json.null other e r = ap as_str (Some_inj tree null (sym r))
other_text t ts rest tree (json.boolean b) other e r = ap as_str (Some_inj tree (boolean b) (sym r))
other_text t ts rest tree (json.number x) other e r = no_text_number (number_of x) tree r
other_text t ts rest tree (json.string x) other e r = absurd (other x (ap (first_or bad) e))
other_text t ts rest tree (json.array js) other e r = no_text_items (of_items js) tree r
other_text t ts rest tree (json.object ms) other e r = no_text_members (of_members ms no_members) tree r

pub no_text : (t : Token) (ts rest : List Token) (tree : Data) → ((s : List ℕ) → t ≡ string_token s → ⊥) → Begins (t ∷ ts) tree rest → as_str tree ≡ None
no_text t ts rest tree other h = other_text t ts rest tree h.value other h.tokens h.reads

-- the tokens of `src`
pub other_token : (t : Handed) → ((x : Bor (List ℕ)) → t ≡ read.Number x → ⊥) → (s : List ℕ) → token_of t ≡ number_token s → ⊥
other_token read.BeginObject h s e = cc
other_token read.EndObject h s e = cc
other_token read.BeginArray h s e = cc
other_token read.EndArray h s e = cc
other_token (read.Key x) h s e = cc
other_token (read.String x) h s e = cc
other_token (read.Number x) h s e = h x refl
other_token (read.Bool b) h s e = cc
other_token read.Null h s e = cc
other_token read.Bad h s e = cc

pub other_word : (t : Handed) → ((x : Bor (List ℕ)) → t ≡ read.String x → ⊥) → (s : List ℕ) → token_of t ≡ string_token s → ⊥
other_word read.BeginObject h s e = cc
other_word read.EndObject h s e = cc
other_word read.BeginArray h s e = cc
other_word read.EndArray h s e = cc
other_word (read.Key x) h s e = cc
other_word (read.String x) h s e = h x refl
other_word (read.Number x) h s e = cc
other_word (read.Bool b) h s e = cc
other_word read.Null h s e = cc
other_word read.Bad h s e = cc

-- ---- the items that are left

-- a tree comes next, and others behind it
pub record ATree (from : List Token) (trees : Items) (rest : List Token) : Type 0 where
  pub tree : Data
  pub others : Items
  pub mid : List Token
  pub are : trees ≡ item tree others
  pub first : Begins from tree mid
  pub behind : AreTrees mid others rest

tree_found : (from rest : List Token) (trees : Items) (j : json.Json) (js : json.Items) (d : Option Data) (ds : Option Items) → of_json j ≡ d → of_items js ≡ ds → option_and_then (λ x. option_map (item x) ds) d ≡ Some trees
    → from ≡ items_tokens (json.item j js) ++ rest → items_depth (json.item j js) ≤ max_depth → ATree from trees rest
tree_found from rest trees j js None ds e f r is shallow = absurd (cc)
tree_found from rest trees j js (Some d) None e f r is shallow = absurd (cc)
tree_found from rest trees j js (Some d) (Some ds) e f r is shallow = record {
  tree = d;
  others = ds;
  mid = items_tokens js ++ rest;
  are = Some_inj trees (item d ds) (sym r);
  first = record { value = j; tokens = is ∙ item_begins j js rest; shallow = omega (arith, shallow); reads = e };
  behind = record { items = js; tokens = refl; shallow = omega (arith, shallow); reads = f };
}

tree_next : (from rest : List Token) (trees : Items) (js : json.Items) → from ≡ items_tokens js ++ rest → items_depth js ≤ max_depth → of_items js ≡ Some trees → after_end_array from ≡ None → ATree from trees rest
tree_next from rest trees json.no_items is shallow r going = let closed : after_end_array from ≡ Some rest = ap after_end_array is in absurd (cc)
tree_next from rest trees (json.item j js) is shallow r going = tree_found from rest trees j js (of_json j) (of_items js) refl refl r is shallow

pub a_tree : (from rest : List Token) (trees : Items) → AreTrees from trees rest → after_end_array from ≡ None → ATree from trees rest
a_tree from rest trees h going = tree_next from rest trees h.items h.tokens h.shallow h.reads going

none_next : (from rest r : List Token) (trees : Items) (js : json.Items) → from ≡ items_tokens js ++ rest → of_items js ≡ Some trees → after_end_array from ≡ Some r → (r ≡ rest) × (trees ≡ no_items)
none_next from rest r trees json.no_items is e closed = (Some_inj r rest (sym closed ∙ ap after_end_array is), Some_inj trees no_items (sym e))
none_next from rest r trees (json.item j js) is e closed =
    let none = ap after_end_array (is ∙ item_begins j js rest) ∙ not_end j (items_tokens js ++ rest) in
    absurd (cc)

pub none_more : (from rest r : List Token) (trees : Items) → AreTrees from trees rest → after_end_array from ≡ Some r → (r ≡ rest) × (trees ≡ no_items)
none_more from rest r trees h closed = none_next from rest r trees h.items h.tokens h.reads closed

-- of the items of a list some are left, of which this holds
pub record IsLeft (P : List Data → Type 0) (from rest : List Token) : Type 0 where
  pub left : Items
  pub here : AreTrees from left rest
  pub holds : P (list_of left)

-- one of them comes next
pub record IsNext (P : List Data → Type 0) (from rest : List Token) : Type 0 where
  pub tree : Data
  pub others : Items
  pub mid : List Token
  pub first : Begins from tree mid
  pub behind : AreTrees mid others rest
  pub holds : P (tree ∷ list_of others)

pub left_next : (P : List Data → Type 0) (from rest : List Token) → IsLeft P from rest → after_end_array from ≡ None → IsNext P from rest
left_next P from rest u going =
    let t : ATree from u.left rest = a_tree from rest u.left u.here going in
    record { tree = t.tree; others = t.others; mid = t.mid; first = t.first; behind = t.behind; holds = subst (λ x. P (list_of x)) t.are u.holds }

-- they end only where it can hold of none
no_end : (P : List Data → Type 0) (from rest : List Token) (left : Items) (js : json.Items) → of_items js ≡ Some left → from ≡ items_tokens js ++ rest → P (list_of left) → (P [] → ⊥) → after_end_array from ≡ None
no_end P from rest left json.no_items e is h some = absurd (some (subst (λ x. P (list_of x)) (sym (Some_inj no_items left e)) h))
no_end P from rest left (json.item j js) e is h some = ap after_end_array (is ∙ item_begins j js rest) ∙ not_end j (items_tokens js ++ rest)

pub left_some : (P : List Data → Type 0) (from rest : List Token) → IsLeft P from rest → (P [] → ⊥) → after_end_array from ≡ None
left_some P from rest u some = no_end P from rest u.left u.here.items u.here.reads u.here.tokens u.holds some

pub left_more : (P Q : List Data → Type 0) (from after rest : List Token) → IsLeft P from rest → after_end_array from ≡ None
    → ((tree : Data) (mid : List Token) → Begins from tree mid → (after ≡ mid) × ((ds : List Data) → P (tree ∷ ds) → Q ds)) → IsLeft Q after rest
left_more P Q from after rest u going step =
    let t = left_next P from rest u going in
    let r = step t.tree t.mid t.first in
    record {
      left = t.others;
      here = subst (λ ts. AreTrees ts t.others rest) (sym r.0) t.behind;
      holds = r.1 (list_of t.others) t.holds;
    }

pub left_over : (P : List Data → Type 0) (from r rest : List Token) → IsLeft P from rest → after_end_array from ≡ Some r → (r ≡ rest) × P []
left_over P from r rest u closed =
    let last = none_more from rest r u.left u.here closed in
    (last.0, subst (λ x. P (list_of x)) last.1 u.holds)
