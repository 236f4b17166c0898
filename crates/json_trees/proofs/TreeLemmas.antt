-- The values of a list, seen as data, and lists read member by member.
use Rattle.std.proofs.Common.{◌≡◌, ℕ, Bool, true, false, List, [], ◌∷◌, map, length, Option, Some, None, option_map, option_and_then, suc, subst, refl, ap, IsUtf8, ◌∙◌}
use Rattle.std.proofs.lemmas.Bool.{false≢true, cond-true, cond-false}
use Rattle.serde_json.specs.Data.{Data, Items, null, boolean, number, string, array, object, unsigned, negative, float}
use Rattle.serde_json.specs.Find.{as_str}
use Rattle.serde_json.specs.View.{view, items_view}
use Rattle.serde_json.specs.declared.value.Value.{Value}
use Rattle.json_trees.specs.Trees.{list_of, list_in, whole_in, is_text, all_in, tree_in}
use Rattle.std.specs.List.{AllZip}
use Rattle.std.specs.Str.{is_utf8}
use Rattle.std.proofs.lemmas.Str.{IsUtf8-from_is_utf8}
use Rattle.json_trees.proofs.TableLemmas.{same_bytes, equal_bytes}
use Rattle.serde_json.specs.Read.{read}
use Rattle.serde_json.proofs.OnLiterals.{serde_json_on_literals}

pub listed : (vs : List Value) → list_of (items_view vs) ≡ map view vs
listed [] = refl
listed (v ∷ vs) = ap (λ ds. view v ∷ ds) (listed vs)

-- a tree that is this text
pub is_text_true : (text : List ℕ) (d : Data) → is_text text d ≡ true → d ≡ string text
is_text_true text null e = absurd (false≢true e)
is_text_true text (boolean b) e = absurd (false≢true e)
is_text_true text (number n) e = absurd (false≢true e)
is_text_true text (string s) e = ap string (same_bytes s text e)
is_text_true text (array ds) e = absurd (false≢true e)
is_text_true text (object ms) e = absurd (false≢true e)

pub is_text_self : (text : List ℕ) → is_text text (string text) ≡ true
is_text_self text = equal_bytes text

-- a tree that is a whole number
pub whole_in_number : (d : Data) (n : ℕ) → whole_in d ≡ Some n → d ≡ number (unsigned n)
whole_in_number null n e = cc
whole_in_number (boolean b) n e = cc
whole_in_number (number (unsigned m)) n e = cc
whole_in_number (number (negative z)) n e = cc
whole_in_number (number (float x)) n e = cc
whole_in_number (string s) n e = cc
whole_in_number (array ds) n e = cc
whole_in_number (object ms) n e = cc

-- a tree that is a list
pub list_in_array : (d : Data) (ds : List Data) → list_in d ≡ Some ds → (items : Items) × (d ≡ array items) × (list_of items ≡ ds)
list_in_array null ds e = cc
list_in_array (boolean b) ds e = cc
list_in_array (number n) ds e = cc
list_in_array (string s) ds e = cc
list_in_array (array items) ds e = (items, refl, cc)
list_in_array (object ms) ds e = cc

pub and_then_some : {A B : Type 0} (f : A → Option B) (o : Option A) (y : B) → option_and_then f o ≡ Some y → (x : A) × (o ≡ Some x) × (f x ≡ Some y)
and_then_some f None y e = cc
and_then_some f (Some x) y e = (x, refl, e)

pub map_some : {A B : Type 0} (f : A → B) (o : Option A) (y : B) → option_map f o ≡ Some y → (x : A) × (o ≡ Some x) × (f x ≡ y)
map_some f None y e = cc
map_some f (Some x) y e = (x, refl, cc)

-- what can be read member by member is related member by member, and the other way
pub AllZip-all_in : {A B : Type 0} (f : A → Option B) (R : A → B → Type 0) → ((x : A) (y : B) → f x ≡ Some y → R x y) → (xs : List A) (ys : List B) → all_in f xs ≡ Some ys → AllZip R xs ys
AllZip-all_in f R each [] [] e = tt
AllZip-all_in f R each [] (y ∷ ys) e = cc
AllZip-all_in f R each (x ∷ xs) ys e =
    let head = and_then_some _ (f x) ys e in
    let rest = map_some _ (all_in f xs) ys head.2 in
    let P = λ (zs : List _). AllZip R (x ∷ xs) zs in
    subst P rest.2 (each x head.0 head.1, AllZip-all_in f R each xs rest.0 rest.1)

pub all_in-AllZip : {A B : Type 0} (f : A → Option B) (R : A → B → Type 0) → ((x : A) (y : B) → R x y → f x ≡ Some y) → (xs : List A) (ys : List B) → AllZip R xs ys → all_in f xs ≡ Some ys
all_in-AllZip f R each [] [] h = refl
all_in-AllZip f R each [] (y ∷ ys) h = absurd h
all_in-AllZip f R each (x ∷ xs) [] h = absurd h
all_in-AllZip f R each (x ∷ xs) (y ∷ ys) h = rw (each x y h.0, all_in-AllZip f R each xs ys h.1)

pub length-AllZip : {A B : Type 0} (R : A → B → Type 0) (xs : List A) (ys : List B) → AllZip R xs ys → length ys ≡ length xs
length-AllZip R [] [] h = refl
length-AllZip R [] (y ∷ ys) h = absurd h
length-AllZip R (x ∷ xs) [] h = absurd h
length-AllZip R (x ∷ xs) (y ∷ ys) h = ap suc (length-AllZip R xs ys h.1)

-- a tree that is a text
pub text_of : (d : Data) (word : List ℕ) → as_str d ≡ Some word → d ≡ string word
text_of null word e = cc
text_of (boolean b) word e = cc
text_of (number n) word e = cc
text_of (string s) word e = cc
text_of (array ds) word e = cc
text_of (object ms) word e = cc

-- no tree is an empty text
pub nothing_read : read [] ≡ None
unfolding serde_json_on_literals
nothing_read = refl

-- bytes that aren't read as a tree where they are UTF-8
pub no_tree : (text : List ℕ) → (IsUtf8 text → read text ≡ None) → tree_in text ≡ None
no_tree text none = at (is_utf8 text) refl where
  at : (b : Bool) → is_utf8 text ≡ b → tree_in text ≡ None
  at true is = cond-true (is_utf8 text) (read text) None is ∙ none (IsUtf8-from_is_utf8 text is)
  at false is = cond-false (is_utf8 text) (read text) None is
